use Rattle.std.proofs.Common.{◌≡◌, take}
use Rattle.gl_rule_rows.proofs.built.built.Given as goal

abbrev pub invariant-loop-text : goal.invariant-loop-text
invariant-loop-text l = l.patterns.items ≡ take l.text-index l.texts
