-- What was built fits, place by place.
use Rattle.std.proofs.Common.{◌≡◌, ℕ, zero, suc, ◌+◌, ◌<◌, List, [], ◌∷◌, ◌++◌, length, take, set, get_or, map, slice_get, Some, Vec, refl, sym, ap, ◌∙◌, arith}
use Rattle.std.specs.Vec.{with_items}
use Rattle.std.proofs.lemmas.List.{get_or-map, length-map, map-set, set-get_or, with_items_is, take_more, map-append}
use Rattle.std.proofs.lemmas.List.Sums.{fold-append}
use Rattle.gl_fields.specs.declared.field.Field.{Field}
use Rattle.gl_extract.specs.declared.built.Built.{Built}
use Rattle.gl_extract.specs.declared.parts.Condition.{Condition}
use Rattle.gl_extract.specs.declared.parts.Condition.TheVariants as conditions
use Rattle.gl_extract.specs.declared.parts.ExtractorKind.{ExtractorKind}
use Rattle.gl_extract.specs.declared.parts.ExtractorKind.TheVariants.{Regex, Substring, Split, Grok, Json}
use Rattle.gl_extract.specs.declared.parts.ExtractorParts.{ExtractorParts}
use Rattle.gl_extract.specs.Extraction.{extracted, Fits, pattern_of, condition_of}
use Rattle.gl_grok.specs.Tables.{Table}
use Rattle.gl_grok.specs.Expansion.{expansion}
use Rattle.gl_settings.specs.declared.input.Input.{Input}
use Rattle.gl_settings.specs.Patterns.{kind_pattern, condition_pattern, built_of}
use Rattle.gl_building.specs.Places.{built_all, built_inputs, extracted_all}

-- What is built of a list, one element after another.

pub grown : {X Y : Type 0} (f : X → Y) (xs : List X) (i : ℕ) (x : X) (ys new : List Y) (y : Y) → i < length xs → x ≡ get_or xs i x → ys ≡ map f (take i xs) → y ≡ f x → new ≡ ys ++ y ∷ [] → new ≡ map f (take (i + 1) xs)
grown {X} {Y} f xs i x ys new y within there so_far is pushed =
    pushed
    ∙ ap (λ (l : List Y). l ++ y ∷ []) so_far
    ∙ ap (λ (v : Y). map f (take i xs) ++ v ∷ []) (is ∙ ap f there)
    ∙ sym (map-append f (take i xs) (get_or xs i x ∷ []))
    ∙ ap (map f) (sym (take_more xs i x within))

-- the same of elements that are seen so
pub grown_in : {X V Y : Type 0} (items : V → Y) (f : X → Y) (xs : List X) (i : ℕ) (x : X) (vs new : List V) (v : V) → i < length xs → x ≡ get_or xs i x → map items vs ≡ map f (take i xs) → items v ≡ f x
    → new ≡ vs ++ v ∷ [] → map items new ≡ map f (take (i + 1) xs)
grown_in items f xs i x vs new v within there so_far is pushed =
    grown f xs i x (map items vs) (map items new) (items v) within there so_far is (ap (map items) pushed ∙ map-append items vs (v ∷ []))

-- What is built of an extractor fits it.

pattern_fits : (groks : Table) (kind : ExtractorKind) → kind_pattern groks kind ≡ pattern_of (λ (p : List ℕ). (expansion groks p).text) kind
pattern_fits groks (Regex pattern target) = refl
pattern_fits groks (Substring begin end target) = refl
pattern_fits groks (Split by index target) = refl
pattern_fits groks (Grok pattern) = refl
pattern_fits groks Json = refl

condition_fits : (condition : Condition) → condition_pattern condition ≡ condition_of condition
condition_fits conditions.None = refl
condition_fits (conditions.Contains part) = refl
condition_fits (conditions.Regex pattern) = refl

pub extractor_fits : (groks : Table) (parts : ExtractorParts) → Fits parts (built_of groks parts)
extractor_fits groks parts = record {
  expanded = λ (p : List ℕ). (expansion groks p).text;
  pattern = pattern_fits groks parts.kind;
  condition = condition_fits parts.condition;
}

-- what is built of the extractor at a place
pub built_at : (groks : Table) (extractors : List ExtractorParts) (built : List Built) (i : ℕ) (parts : ExtractorParts) (d : Built) → built ≡ built_all groks extractors
    → i < length extractors → parts ≡ get_or extractors i parts → get_or built i d ≡ built_of groks parts
built_at groks extractors built i parts d is within there =
    ap (λ (l : List Built). get_or l i d) is
    ∙ get_or-map (built_of groks) extractors i parts d within
    ∙ ap (built_of groks) (sym there)

-- one extractor more
pub extracted_more : (groks : Table) (extractors : List ExtractorParts) (i : ℕ) (parts : ExtractorParts) (fields : List Field) → i < length extractors → parts ≡ get_or extractors i parts
    → extracted_all groks (take (i + 1) extractors) fields ≡ extracted parts (built_of groks parts) (extracted_all groks (take i extractors) fields)
extracted_more groks extractors i parts fields within there =
    ap (λ (l : List ExtractorParts). extracted_all groks l fields) (take_more extractors i parts within ∙ ap (λ (p : ExtractorParts). take i extractors ++ p ∷ []) (sym there))
    ∙ fold-append (λ (kept : List Field) (p : ExtractorParts). extracted p (built_of groks p) kept) fields (take i extractors) (parts ∷ [])

-- the element that is there
pub got_is : {X : Type 0} (xs : List X) (i : ℕ) (x y : X) → i < length xs → x ≡ get_or xs i x → slice_get xs i ≡ Some y → x ≡ y
got_is [] i x y within there got = absurd (omega arith)
got_is (z ∷ xs) zero x y within there got = cc
got_is (z ∷ xs) (suc i) x y within there got = got_is xs i x y (omega arith) there got

-- What is built of the extractors of the inputs, at the place of one of them.

pub as_long : {V : Type 0} (items : V → List Built) (groks : Table) (inputs : List Input) (owns : List V) → map items owns ≡ built_inputs groks inputs → length owns ≡ length inputs
as_long items groks inputs owns is = sym (length-map owns items) ∙ ap length is ∙ length-map inputs (λ (other : Input). built_all groks other.extractors)

module _ {V : Type 0} (items : V → List Built) (groks : Table) (inputs : List Input) (owns : List V) (i : ℕ) (input : Input) (d : V) (is : map items owns ≡ built_inputs groks inputs)
    (within : i < length inputs) (there : input ≡ get_or inputs i input) where
  pub own_at : items (get_or owns i d) ≡ built_all groks input.extractors
  own_at =
      sym (get_or-map items owns i d (items d) (omega (arith, as_long items groks inputs owns is)))
      ∙ ap (λ (l : List (List Built)). get_or l i (items d)) is
      ∙ get_or-map (λ (other : Input). built_all groks other.extractors) inputs i input (items d) within
      ∙ ap (λ (other : Input). built_all groks other.extractors) (sym there)

  pub still : (new : V) → items new ≡ items (get_or owns i d) → map items (set owns i new) ≡ map items owns
  still new same =
      map-set items owns i new
      ∙ ap (set (map items owns) i) (same ∙ sym (get_or-map items owns i d (items d) (omega (arith, as_long items groks inputs owns is))))
      ∙ set-get_or (map items owns) i (items d)

pub refilled : {X Z : Type 0} (v : Vec X Z) (ws : List X) → ws ≡ v.items → (with_items v ws).items ≡ v.items
refilled v ws e = with_items_is v ws (ap length e ∙ sym v.ok.0) ∙ e
