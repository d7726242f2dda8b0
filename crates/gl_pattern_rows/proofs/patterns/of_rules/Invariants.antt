use Rattle.std.proofs.Common.{◌≡◌, take}
use Rattle.gl_streams.specs.Matching.{patterns_of}
use Rattle.gl_pattern_rows.proofs.patterns.of_rules.Given as goal

abbrev pub invariant-loop-rule : goal.invariant-loop-rule
invariant-loop-rule l = l.own.items ≡ patterns_of (take l.rule-index l.rules)
