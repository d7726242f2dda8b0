use Rattle.std.proofs.Common.{List, get_or, sym, ap, ◌∙◌, arith}
use Rattle.std.specs.Vec.{with_items}
use Rattle.std.proofs.lemmas.Result.{on_ok_weaker}
use Rattle.gl_extract.specs.declared.parts.ExtractorParts.{ExtractorParts}
use Rattle.gl_settings.specs.declared.input.Input.{Input}
use Rattle.gl_building.specs.Places.{built_all, extracted_all}
use Rattle.gl_building.proofs.Fitting.{as_long, own_at, still, got_is, refilled}
use Rattle.gl_building.proofs.extracting.extract_at.Goals as goal

pub bounds-built-place : goal.bounds-built-place
bounds-built-place c =
    omega (arith, as_long (λ own. own.items) c.requires.built.0 c.args.inputs.now c.args.built.now c.requires.built.1, c.requires.within)

pub extract_all-requires : goal.extract_all-requires
extract_all-requires c = (
  c.requires.built.0,
  c.as_mut_slice.ensures.value
      ∙ own_at (λ own. own.items) c.requires.built.0 c.args.inputs.now c.args.built.now c.args.place c.index-inputs-place.result c.index-built-place.result c.requires.built.1 c.requires.within c.index-inputs-place.is
      ∙ ap (λ (i : Input). built_all c.requires.built.0 i.extractors) c.index-inputs-place.is
      ∙ ap (built_all c.requires.built.0) (sym c.as_slice.ensures),
)

pub returns-clause-fields : goal.returns-clause-fields
returns-clause-fields c = on_ok_weaker c.extract_all.result
    (λ h groks is input there.
    h groks
    (c.as_mut_slice.ensures.value
    ∙ own_at (λ own. own.items) groks c.args.inputs.now c.args.built.now c.args.place c.index-inputs-place.result c.index-built-place.result is c.requires.within c.index-inputs-place.is
    ∙ ap (λ (i : Input). built_all groks i.extractors) c.index-inputs-place.is
    ∙ ap (built_all groks) (sym c.as_slice.ensures))
    ∙ ap (λ (xs : List ExtractorParts). extracted_all groks xs c.args.fields.now) (c.as_slice.ensures ∙ ap (λ (i : Input). i.extractors) (sym c.index-inputs-place.is ∙ got_is c.args.inputs.now c.args.place c.index-inputs-place.result input c.requires.within c.index-inputs-place.is there)))
    c.extract_all.ensures.fields

pub returns-clause-same : goal.returns-clause-same
returns-clause-same c =
    still (λ own. own.items) c.requires.built.0 c.args.inputs.now c.args.built.now c.args.place c.index-inputs-place.result c.index-built-place.result c.requires.built.1 c.requires.within c.index-inputs-place.is
    (with_items (get_or c.args.built.now c.args.place c.index-built-place.result) c.extract_all.new.built)
    (refilled (get_or c.args.built.now c.args.place c.index-built-place.result) _ (c.extract_all.ensures.same ∙ c.as_mut_slice.ensures.value))
