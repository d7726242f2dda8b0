use Rattle.gl_moments.proofs.Meeting.{begins_test}
use Rattle.std.proofs.Common.{arith}
use Rattle.gl_moments.proofs.minute.begins_before.Goals as goal

pub returns-in-Some : goal.returns-in-Some
returns-in-Some c = begins_test c.args.minute c.in-Some.last c.args.to (omega (arith, c.in-Some.ensures))
