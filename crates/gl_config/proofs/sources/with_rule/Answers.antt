use Rattle.std.proofs.Common.{ap, ◌∙◌}
use Rattle.std.proofs.lemmas.Result.{IfOk-weaker}
use Rattle.gl_rulelang.specs.Tree.{RuleTree}
use Rattle.gl_settings.specs.Settings.{placed}
use Rattle.gl_config.proofs.sources.with_rule.Goals as goal

pub returns : goal.returns
returns c =
    IfOk-weaker c.with_rules.result _ _
    (λ p h. h ∙ (λ i. record (c.in_ok-next.ensures i) { rules = (c.in_ok-rules.ensures ∙ ap (placed (λ (x : RuleTree). x.name) c.args.rule) c.rules.ensures) i }))
    c.with_rules.ensures
