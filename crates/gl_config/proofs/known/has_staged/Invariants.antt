use Rattle.std.proofs.Common.{◌≡◌, true, take}
use Rattle.std.specs.List.{list_all, flat_map}
use Rattle.gl_rulelang.specs.declared.pipeline.Stage.{Stage}
use Rattle.gl_settings.specs.Settings.{has_rule}
use Rattle.gl_config.proofs.known.has_staged.Given as goal

abbrev pub invariant-loop-stage : goal.invariant-loop-stage
invariant-loop-stage l = list_all (has_rule l.parts) (flat_map (λ (stage : Stage). stage.rules) (take l.stage-index l.stages)) ≡ true
