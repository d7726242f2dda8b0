use Rattle.std.proofs.Common.{◌≡◌, take, false}
use Rattle.gl_stage.specs.Stages.{is_among}
use Rattle.gl_stage.specs.Lent.{names_now}
use Rattle.gl_stage.proofs.names.is_among.Given as goal

abbrev pub invariant-loop-other : goal.invariant-loop-other
invariant-loop-other l = is_among (names_now (take l.other-index l.names)) l.name ≡ false
