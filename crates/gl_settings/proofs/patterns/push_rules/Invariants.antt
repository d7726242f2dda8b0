use Rattle.std.proofs.Common.{◌≡◌, ◌++◌, take}
use Rattle.std.specs.List.{flat_map}
use Rattle.std.specs.Prelude.{option_to_list}
use Rattle.gl_streams.specs.Matching.{pattern_of}
use Rattle.gl_settings.proofs.patterns.push_rules.Given as goal

abbrev pub invariant-loop-rule : goal.invariant-loop-rule
invariant-loop-rule l = l.texts ≡ l.initial.texts ++ flat_map (λ rule. option_to_list (pattern_of rule.test)) (take l.rule-index l.rules)
