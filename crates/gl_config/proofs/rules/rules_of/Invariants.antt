use Rattle.std.proofs.Common.{◌≡◌, None, take}
use Rattle.gl_config.specs.Next.{rules_of}
use Rattle.gl_config.specs.Applying.{number_cause}
use Rattle.gl_config.proofs.rules.rules_of.Given as goal

abbrev pub invariant-loop-rule : goal.invariant-loop-rule
invariant-loop-rule l = (number_cause (take l.rule-index l.rules) ≡ None) × (l.made ≡ rules_of (take l.rule-index l.rules))
