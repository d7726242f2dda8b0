-- Rising lists that grow at the end.
use Rattle.std.proofs.Common.{◌≡◌, ℕ, ◌-◌, ◌<◌, Bool, true, false, List, [], ◌∷◌, ◌++◌, length, get_or, refl, sym, ap, ◌∙◌, arith, inl, inr, ltb, Some}
use Rattle.std.specs.List.{All, list_all, slice_get}
use Rattle.std.proofs.lemmas.Bool.{cases_eq, lt-ltb, ltb-true}
use Rattle.std.proofs.lemmas.Option.{slice_get_within, get_or_from_slice_get}
use Rattle.std.proofs.lemmas.List.Elements.{All-append, All-cons, All-nil, All-head, All-tail}
use Rattle.std.proofs.lemmas.List.Sums.{list_all-from_AllPass}
use Rattle.std.proofs.lemmas.List.Folds.{list_all_at}
use Rattle.gl_fields.specs.declared.field.Field.{Field}
use Rattle.gl_fields.specs.Fields.{Rises, comes_before}
use Rattle.gl_fields.proofs.Names.{before-trans}
use Rattle.gl_fields.proofs.Rising.{Rises-at}

module _ {X : Type 0} (R : X → X → Type 0) where
  -- a test that what stands before an element passes too is that of the last
  pub last_decides : (p : X → Bool) → ((a b : X) → R a b → p b ≡ true → p a ≡ true) → (xs : List X) (last : X) → Rises R xs → slice_get xs (length xs - 1) ≡ Some last
      → p last ≡ list_all p xs
  last_decides p down xs last rises e = by (p last) refl
    where
      some : length xs - 1 < length xs
      some = slice_get_within xs (length xs - 1) last e

      at_last : (d : X) → p (get_or xs (length xs - 1) d) ≡ p last
      at_last d = ap p (get_or_from_slice_get xs (length xs - 1) last d e)

      by : (b : Bool) → p last ≡ b → b ≡ list_all p xs
      by false none = sym (list_all_at p xs (length xs - 1) last some (at_last last ∙ none))
      by true all = sym (list_all-from_AllPass p xs each)
        where
          each : (k : ℕ) (d : X) → k < length xs → p (get_or xs k d) ≡ true
          each k d lt =
              elim (cases_eq k (length xs - 1)) [
                | inl same ↦ ap (λ (n : ℕ). p (get_or xs n d)) same ∙ at_last d ∙ all
                | inr other ↦ down (get_or xs k d) (get_or xs (length xs - 1) d) (Rises-at R xs rises k (length xs - 1) d (omega arith) (omega arith)) (at_last d ∙ all)
              ]

  pub Rises-push : (xs : List X) (x : X) → Rises R xs → All (λ (y : X). R y x) xs → Rises R (xs ++ x ∷ [])
  Rises-push [] x rises before = (All-nil (R x), tt)
  Rises-push (y ∷ xs) x rises before = (
    All-append (R y) xs (x ∷ []) rises.0 (All-cons (R y) x [] (All-head (λ (z : X). R z x) y xs before) (All-nil (R y))),
    Rises-push xs x rises.1 (All-tail (λ (z : X). R z x) y xs before),
  )

  -- what stands before an element stands so to it
  pub Rises-before : (xs : List X) (x : X) (ys : List X) → Rises R (xs ++ x ∷ ys) → All (λ (y : X). R y x) xs
  Rises-before [] x ys rises = All-nil (λ (y : X). R y x)
  Rises-before (z ∷ xs) x ys rises =
      All-cons (λ (y : X). R y x) z xs (All-head (R z) x ys (drop-All (R z) xs (x ∷ ys) rises.0)) (Rises-before xs x ys rises.1)
    where
      drop-All : (P : X → Type 0) (front back : List X) → All P (front ++ back) → All P back
      drop-All P [] back all = all
      drop-All P (f ∷ front) back all = drop-All P front back (All-tail P f (front ++ back) all)

-- the ids before an id, and the fields before a name
pub last_id : (ids : List ℕ) (id last : ℕ) → Rises (λ (a b : ℕ). a < b) ids → slice_get ids (length ids - 1) ≡ Some last
    → ltb last id ≡ list_all (λ (other : ℕ). ltb other id) ids
last_id ids id last rises e =
    last_decides (λ (a b : ℕ). a < b) (λ (other : ℕ). ltb other id) (λ a b lt below. lt-ltb a id (omega (arith, ltb-true b id below))) ids last rises e

pub last_name : (fields : List Field) (name : List ℕ) (last : Field) → Rises (λ (a b : Field). comes_before a.name b.name ≡ true) fields
    → slice_get fields (length fields - 1) ≡ Some last → comes_before last.name name ≡ list_all (λ (field : Field). comes_before field.name name) fields
last_name fields name last rises e =
    last_decides (λ (a b : Field). comes_before a.name b.name ≡ true) (λ (field : Field). comes_before field.name name)
    (λ a b lt below. before-trans a.name b.name name lt below) fields last rises e
