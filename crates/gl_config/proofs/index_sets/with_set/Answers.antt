use Rattle.std.proofs.Common.{◌∙◌}
use Rattle.std.proofs.lemmas.Result.{IfOk-weaker}
use Rattle.gl_fields.specs.declared.set_rule.SetRule.{SetRule}
use Rattle.gl_settings.specs.Settings.{placed}
use Rattle.gl_config.proofs.index_sets.with_set.Goals as goal

pub returns : goal.returns
returns c =
    IfOk-weaker c.with_sets.result _ _
    (λ p h. h ∙ (λ i. record (c.in_ok-next.ensures i) {
      sets = (c.in_ok-sets.ensures ∙ (λ j. placed (λ (x : SetRule). x.name) (record { name = c.in_ok-copy.ensures j; max_docs = c.args.max_docs; max_ms = c.args.max_ms; keep = c.args.keep }) (c.sets.ensures j))) i;
    }))
    c.with_sets.ensures
