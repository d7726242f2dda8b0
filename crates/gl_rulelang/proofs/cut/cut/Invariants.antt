use Rattle.std.proofs.Common.{length}
use Rattle.gl_rulelang.proofs.Cuts.{Stands}
use Rattle.gl_rulelang.proofs.cut.cut.Given as goal

abbrev pub invariant-loop-rest : goal.invariant-loop-rest
invariant-loop-rest l = Stands l.text l.tokens.items l.at l.rest

abbrev pub decreases-loop-rest : goal.decreases-loop-rest
decreases-loop-rest l = length l.rest
