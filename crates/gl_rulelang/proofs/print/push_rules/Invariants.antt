use Rattle.std.proofs.Common.{◌≡◌, ◌++◌, drop}
use Rattle.std.specs.String.{string_bytes}
use Rattle.std.specs.List.{flat_map}
use Rattle.gl_rulelang.specs.Printing.{rule_line}
use Rattle.gl_rulelang.proofs.print.push_rules.Given as goal

-- what was written, and what is left
abbrev pub invariant-loop-rule : goal.invariant-loop-rule
invariant-loop-rule l = string_bytes l.out ++ flat_map rule_line (drop l.rule-index l.rules) ≡ string_bytes l.initial.out ++ flat_map rule_line l.rules
