use Rattle.std.proofs.Common.{◌≡◌, true, take}
use Rattle.std.specs.List.{list_all}
use Rattle.gl_settings.specs.Settings.{has_stream}
use Rattle.gl_config.proofs.known.has_streams.Given as goal

abbrev pub invariant-loop-id : goal.invariant-loop-id
invariant-loop-id l = list_all (has_stream l.parts) (take l.id-index l.ids) ≡ true
