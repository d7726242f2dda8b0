use Rattle.std.proofs.Common.{rules, ◌<◌, ◌∙◌, length, sym, ap, subst}
use Rattle.gl_grok.specs.Tables.{table_of}
use Rattle.gl_settings.specs.Limits.{Refuses}
use Rattle.gl_extract.specs.declared.parts.ExtractorParts.{ExtractorParts}
use Rattle.gl_config.specs.Applying.{kind_cause}
use Rattle.gl_config.proofs.Refusing.{exit, firsts_more, firsts_at}
use Rattle.gl_config.proofs.texts.check_extractors.Goals as goal

pub loop-extractor-preserved : goal.loop-extractor-preserved
loop-extractor-preserved c =
    let lt : c.loop-extractor.extractor-index < length c.args.extractors.now = search rules in
    firsts_more (λ (x : ExtractorParts). kind_cause (table_of c.args.groks.now) x.kind) c.args.extractors.now c.loop-extractor.extractor-index c.extractor-item.result lt c.loop-extractor.invariant
    (ap (λ (x : ExtractorParts). kind_cause (table_of c.args.groks.now) x.kind) (sym c.extractor-item.is) ∙ ap (λ (x : ExtractorParts). kind_cause (table_of c.args.groks.now) x.kind) (sym c.parts.ensures.value) ∙ c.in_ok-check_kind.ensures.ok)

pub returns-in_err-check_kind-clause-err : goal.returns-in_err-check_kind-clause-err
returns-in_err-check_kind-clause-err c =
    let lt : c.loop-extractor.extractor-index < length c.args.extractors.now = search rules in
    exit c.from_residual.result c.in_err-check_kind.field-0.0 _ c.from_residual.ensures.1
    (firsts_at (λ (x : ExtractorParts). kind_cause (table_of c.args.groks.now) x.kind) c.args.extractors.now c.loop-extractor.extractor-index c.extractor-item.result c.in_err-check_kind.field-0.0 lt c.loop-extractor.invariant
    (subst (λ (x : ExtractorParts). Refuses (kind_cause (table_of c.args.groks.now) x.kind) c.in_err-check_kind.field-0.0) (c.parts.ensures.value ∙ c.extractor-item.is) c.in_err-check_kind.ensures.err))
