use Rattle.std.proofs.Common.{◌≡◌, take, false}
use Rattle.gl_settings.specs.Settings.{has_name}
use Rattle.gl_settings.proofs.named.has_name.Given as goal

abbrev pub invariant-loop-item : goal.invariant-loop-item
invariant-loop-item g l = has_name g.T.Named.name_of l.name (take l.item-index l.items) ≡ false
