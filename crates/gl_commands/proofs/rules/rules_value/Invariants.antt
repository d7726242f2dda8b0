use Rattle.std.proofs.Common.{◌≡◌, map, take}
use Rattle.gl_commands.specs.Texts.{rule_data}
use Rattle.serde_json.specs.View.{view}
use Rattle.gl_commands.proofs.rules.rules_value.Given as goal

abbrev pub invariant-loop-rule : goal.invariant-loop-rule
invariant-loop-rule l = map view l.values.items ≡ map rule_data (take l.rule-index l.rules)
