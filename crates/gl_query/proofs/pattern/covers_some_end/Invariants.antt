use Rattle.std.proofs.Common.{◌≡◌, ◌+◌, length}
use Rattle.gl_query.specs.Texts.{some_end}
use Rattle.gl_query.specs.Patterns.{covers}
use Rattle.gl_query.proofs.pattern.covers_some_end.Given as goal

abbrev pub invariant-loop-rest : goal.invariant-loop-rest
invariant-loop-rest l = some_end (covers l.pattern) l.text ≡ some_end (covers l.fn.pattern) l.fn.text

abbrev pub decreases-loop-rest : goal.decreases-loop-rest
decreases-loop-rest l = length l.pattern + length l.text
