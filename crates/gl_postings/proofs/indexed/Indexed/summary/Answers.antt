use Rattle.std.proofs.Common.{◌≡◌, List, subst}
use Rattle.std.specs.Result.{IfOk}
use Rattle.gl_fields.specs.declared.set_rule.SetRule.{SetRule}
use Rattle.gl_indexset.specs.Summary.{summary_of}
use Rattle.gl_postings.proofs.indexed.Indexed.summary.Goals as goal

pub returns : goal.returns
returns c = λ rules all stands. subst (λ (rs : List SetRule). IfOk c.summary.result (λ found. found ≡ summary_of rs all)) stands.sets.rules_are (c.summary.ensures all stands.sets.rows)
