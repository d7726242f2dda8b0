use Rattle.std.proofs.Common.{◌≡◌, true, take}
use Rattle.std.specs.List.{list_all}
use Rattle.gl_settings.specs.Settings.{has_pipeline}
use Rattle.gl_config.proofs.known.has_pipelines.Given as goal

abbrev pub invariant-loop-name : goal.invariant-loop-name
invariant-loop-name l = list_all (has_pipeline l.parts) (take l.name-index l.names) ≡ true
