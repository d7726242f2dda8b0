use Rattle.std.proofs.Common.{rules, ◌<◌, ◌∙◌, [], ◌∷◌, ◌++◌, length, sym, ap, subst}
use Rattle.std.proofs.lemmas.List.{take_more}
use Rattle.gl_grok.specs.Tables.{table_of}
use Rattle.gl_settings.specs.Limits.{Refuses}
use Rattle.gl_config.specs.Applying.{extractor_cause}
use Rattle.gl_config.proofs.Refusing.{exit, firsts_more, firsts_at}
use Rattle.gl_config.proofs.texts.extractors_of.Goals as goal

pub loop-parts-preserved : goal.loop-parts-preserved
loop-parts-preserved c =
    let lt : c.loop-parts.parts-index < length c.args.extractors.now = search rules in (
      firsts_more (extractor_cause (table_of c.args.groks.now)) c.args.extractors.now c.loop-parts.parts-index c.parts-item.result lt c.loop-parts.invariant.0
          (ap (extractor_cause (table_of c.args.groks.now)) (sym c.parts-item.is) ∙ c.in_ok-extractor_of.ensures.ok.0),
      c.in_ok-push.ensures.ok ∙ (λ i. c.loop-parts.invariant.1 i ++ (c.in_ok-extractor_of.ensures.ok.1 ∙ c.parts-item.is) i ∷ []) ∙ sym (take_more c.args.extractors.now c.loop-parts.parts-index c.parts-item.result lt),
    )

pub returns-in_err-extractor_of-clause-err : goal.returns-in_err-extractor_of-clause-err
returns-in_err-extractor_of-clause-err c =
    let lt : c.loop-parts.parts-index < length c.args.extractors.now = search rules in
    exit c.from_residual.result c.in_err-extractor_of.field-0.0 _ c.from_residual.ensures.1
    (firsts_at (extractor_cause (table_of c.args.groks.now)) c.args.extractors.now c.loop-parts.parts-index c.parts-item.result c.in_err-extractor_of.field-0.0 lt c.loop-parts.invariant.0
    (subst (λ p. Refuses (extractor_cause (table_of c.args.groks.now) p) c.in_err-extractor_of.field-0.0) c.parts-item.is c.in_err-extractor_of.ensures.err))
