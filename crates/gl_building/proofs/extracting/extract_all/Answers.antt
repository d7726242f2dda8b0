use Rattle.std.proofs.Common.{set, List, sym, ap, ◌∙◌, subst, arith}
use Rattle.std.proofs.lemmas.List.{take_all, set-get_or}
use Rattle.gl_fields.specs.declared.field.Field.{Field}
use Rattle.gl_extract.specs.declared.built.Built.{Built}
use Rattle.gl_extract.specs.declared.parts.ExtractorParts.{ExtractorParts}
use Rattle.gl_extract.specs.Extraction.{extracted, Fits}
use Rattle.gl_settings.specs.Patterns.{built_of}
use Rattle.gl_building.specs.Places.{extracted_all}
use Rattle.gl_building.proofs.Fitting.{extractor_fits, built_at, extracted_more}
use Rattle.gl_building.proofs.extracting.extract_all.Goals as goal

pub apply-requires : goal.apply-requires
apply-requires c =
    let parts = c.index-extractors-i.result in
    subst (λ (b : Built). Fits parts b)
    (sym (built_at c.requires.0 c.args.extractors.now c.loop-i.built c.loop-i.i parts c.index-built-i.result (c.loop-i.invariant.same ∙ c.requires.1) c.loop-i-test.true c.index-extractors-i.is))
    (extractor_fits c.requires.0 parts)

pub loop-i-preserved : goal.loop-i-preserved
loop-i-preserved c =
    let l = c.loop-i in
    let parts = c.index-extractors-i.result in
    record {
      fields = λ groks is.
          c.in_ok-apply.ensures.fields
          ∙ ap (λ (b : Built). extracted parts b l.fields) (built_at groks c.args.extractors.now l.built l.i parts c.index-built-i.result (l.invariant.same ∙ is) c.loop-i-test.true c.index-extractors-i.is)
          ∙ ap (λ (fields : List Field). extracted parts (built_of groks parts) fields) (l.invariant.fields groks is)
          ∙ sym (extracted_more groks c.args.extractors.now l.i parts c.args.fields.now c.loop-i-test.true c.index-extractors-i.is);
      same = ap (set l.built l.i) c.in_ok-apply.ensures.same ∙ set-get_or l.built l.i c.index-built-i.result ∙ l.invariant.same;
    }

pub returns-clause-fields : goal.returns-clause-fields
returns-clause-fields c = λ groks is.
    c.loop-i.invariant.fields groks is
    ∙ ap (λ (xs : List ExtractorParts). extracted_all groks xs c.args.fields.now) (take_all c.loop-i.i c.args.extractors.now (omega arith))
