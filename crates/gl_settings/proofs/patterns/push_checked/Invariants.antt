use Rattle.std.proofs.Common.{◌≡◌, ◌++◌, take}
use Rattle.std.specs.List.{flat_map}
use Rattle.gl_check.specs.Checking.{pattern_texts}
use Rattle.gl_settings.proofs.patterns.push_checked.Given as goal

abbrev pub invariant-loop-rule : goal.invariant-loop-rule
invariant-loop-rule l = l.texts ≡ l.initial.texts ++ flat_map pattern_texts (take l.rule-index l.rules)
