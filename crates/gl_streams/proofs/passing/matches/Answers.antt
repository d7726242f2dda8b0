use Rattle.std.proofs.Common.{Some, ap}
use Rattle.gl_streams.proofs.passing.matches.Goals as goal

pub returns-in-Some-clause-same : goal.returns-in-Some-clause-same
returns-in-Some-clause-same c = rw c.in-Some.is (ap Some c.pattern_matches.ensures.same)
