use Rattle.std.proofs.Common.{◌≡◌, ◌<◌, length, None, option_map, string_bytes, slice_index_or, sym, ap, ◌∙◌, arith, true≢false, inl, inr}
use Rattle.std.proofs.lemmas.Bool.{cases_lt}
use Rattle.std.proofs.lemmas.List.{get_or-map, length-map}
use Rattle.regex.specs.Names.{names_of}
use Rattle.gl_patterns.proofs.spans.index_of.Goals as goal

pub names-preserved : goal.names-preserved
names-preserved c k below named = elim (cases_lt k c.names.index) [
  | inl earlier ↦ c.names.invariant k earlier named
  | inr here ↦
      let names = c.args.names.now in
      let own = c.index-names-index.result in
      let same : c.names.index ≡ k = omega arith in
      let read : option_map string_bytes own ≡ slice_index_or (names_of names) c.names.index None =
      ap (option_map string_bytes) c.index-names-index.is ∙ sym (get_or-map (option_map string_bytes) names c.names.index own None (omega arith)) in
      true≢false (sym (c.has_name.ensures.1 (read ∙ ap (λ n. slice_index_or (names_of names) n None) same ∙ named)) ∙ c.if-has_name.false)
]

pub returns-then-has_name : goal.returns-then-has_name
returns-then-has_name c =
    let names = c.args.names.now in
    let own = c.index-names-index.result in
    let low : c.names.index < length (names_of names) = omega (arith, length-map names (option_map string_bytes)) in
    let read : option_map string_bytes own ≡ slice_index_or (names_of names) c.names.index None =
    ap (option_map string_bytes) c.index-names-index.is ∙ sym (get_or-map (option_map string_bytes) names c.names.index own None (omega arith)) in
    (low, sym read ∙ c.has_name.ensures.0 c.if-has_name.true, c.names.invariant)
