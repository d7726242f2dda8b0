use Rattle.std.proofs.Common.{rules, ◌<◌, ◌∙◌, length, sym, ap, subst}
use Rattle.gl_grok.specs.Tables.{table_of}
use Rattle.gl_settings.specs.Limits.{Refuses}
use Rattle.gl_config.specs.Applying.{kinds_cause}
use Rattle.gl_settings.specs.declared.input.Input.{Input}
use Rattle.gl_config.proofs.Refusing.{exit, firsts_more, firsts_at}
use Rattle.gl_config.proofs.texts.check_inputs.Goals as goal

pub loop-input-preserved : goal.loop-input-preserved
loop-input-preserved c =
    let lt : c.loop-input.input-index < length c.args.inputs.now = search rules in
    firsts_more (λ (x : Input). kinds_cause (table_of c.args.groks.now) x.extractors) c.args.inputs.now c.loop-input.input-index c.input-item.result lt c.loop-input.invariant
    (ap (λ (x : Input). kinds_cause (table_of c.args.groks.now) x.extractors) (sym c.input-item.is) ∙ ap (kinds_cause (table_of c.args.groks.now)) (sym c.as_slice.ensures) ∙ c.in_ok-check_extractors.ensures.ok)

pub returns-in_err-check_extractors-clause-err : goal.returns-in_err-check_extractors-clause-err
returns-in_err-check_extractors-clause-err c =
    let lt : c.loop-input.input-index < length c.args.inputs.now = search rules in
    exit c.from_residual.result c.in_err-check_extractors.field-0.0 _ c.from_residual.ensures.1
    (firsts_at (λ (x : Input). kinds_cause (table_of c.args.groks.now) x.extractors) c.args.inputs.now c.loop-input.input-index c.input-item.result c.in_err-check_extractors.field-0.0 lt c.loop-input.invariant
    (subst (λ (x : Input). Refuses (kinds_cause (table_of c.args.groks.now) x.extractors) c.in_err-check_extractors.field-0.0) c.input-item.is (subst (λ es. Refuses (kinds_cause (table_of c.args.groks.now) es) c.in_err-check_extractors.field-0.0) c.as_slice.ensures c.in_err-check_extractors.ensures.err)))
