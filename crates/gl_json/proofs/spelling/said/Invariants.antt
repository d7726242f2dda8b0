use Rattle.std.proofs.Common.{length}
use Rattle.gl_json.proofs.SaidRead.{Spelling}
use Rattle.gl_json.proofs.spelling.said.Given as goal

abbrev pub invariant-loop-rest : goal.invariant-loop-rest
invariant-loop-rest l = Spelling l.raw l.text.items l.waiting l.rest

abbrev pub decreases-loop-rest : goal.decreases-loop-rest
decreases-loop-rest l = length l.rest
