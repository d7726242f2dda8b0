use Rattle.std.proofs.Common.{◌≡◌, take}
use Rattle.gl_rulelang.proofs.copy.copy_stages.Given as goal

abbrev pub invariant-loop-stage : goal.invariant-loop-stage
invariant-loop-stage l = l.copies ≡ take l.stage-index l.stages
