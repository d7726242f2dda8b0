use Rattle.std.proofs.Common.{arith}
use Rattle.gl_patterns.proofs.spans.clear_spans.Goals as goal

pub returns-clause-each : goal.returns-clause-each
returns-clause-each c n low = c.groups.invariant.1 n (omega (arith, low, c.groups.invariant.0))
