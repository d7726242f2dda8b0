use Rattle.std.proofs.Common.{rules, ◌≡◌, ℕ, List, sym, ◌∙◌}
use Rattle.gl_eval.proofs.Rules.{condition_lawful, condition_stands}
use Rattle.gl_eval.proofs.holding.holds.Goals as goal

pub meaning_of-requires-clause-lawful : goal.meaning_of-requires-clause-lawful
meaning_of-requires-clause-lawful c = condition_lawful c.rule.result.now c.args.rule.now c.rule.ensures.value c.rule.ensures.lawful

pub meaning_of-requires-clause-patterns : goal.meaning_of-requires-clause-patterns
meaning_of-requires-clause-patterns c = condition_stands c.rule.result.now c.args.rule.now c.patterns.inside.row.patterns.items c.rule.ensures.value (c.patterns.view_is ∙ c.requires)
