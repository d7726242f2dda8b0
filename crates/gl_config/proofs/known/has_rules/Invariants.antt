use Rattle.std.proofs.Common.{◌≡◌, true, take}
use Rattle.std.specs.List.{list_all}
use Rattle.gl_settings.specs.Settings.{has_rule}
use Rattle.gl_config.proofs.known.has_rules.Given as goal

abbrev pub invariant-loop-name : goal.invariant-loop-name
invariant-loop-name l = list_all (has_rule l.parts) (take l.name-index l.names) ≡ true
