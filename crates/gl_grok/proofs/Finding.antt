-- The first of some names that passes a test.
use Rattle.std.proofs.Common.{◌≡◌, ℕ, suc, ◌+◌, ◌<◌, ◌≤◌, Bool, true, false, List, ◌∷◌, map, find, length, drop, get_or, Option, Some, None, Bor, sym, ap, ◌∙◌, add-one, drop-cons}
use Rattle.std.proofs.lemmas.Bool.{cond-true, cond-false}
use Rattle.std.proofs.lemmas.List.{drop_all}

module _ (p : List ℕ → Bool) (names : List (Bor (List ℕ))) where
  -- the first from a place on
  abbrev pub from_place : ℕ → Option (List ℕ)
  from_place i = find p (map (λ s. s.now) (drop i names))

  opened : (i : ℕ) (name : Bor (List ℕ)) → i < length names → name ≡ get_or names i name → from_place i ≡ find p (name.now ∷ map (λ s. s.now) (drop (suc i) names))
  opened i name lt e =
      ap (λ (xs : List (Bor (List ℕ))). find p (map (λ s. s.now) xs)) (drop-cons names i name lt)
      ∙ ap (λ (x : Bor (List ℕ)). find p (x.now ∷ map (λ s. s.now) (drop (suc i) names))) (sym e)

  pub found_here : (i : ℕ) (name : Bor (List ℕ)) → i < length names → name ≡ get_or names i name → p name.now ≡ true → from_place i ≡ Some name.now
  found_here i name lt e passes = opened i name lt e ∙ cond-true (p name.now) (Some name.now) (from_place (suc i)) passes

  pub found_later : (i : ℕ) (name : Bor (List ℕ)) → i < length names → name ≡ get_or names i name → p name.now ≡ false → from_place i ≡ from_place (i + 1)
  found_later i name lt e fails = opened i name lt e ∙ cond-false (p name.now) (Some name.now) (from_place (suc i)) fails ∙ ap from_place (sym (add-one i))

  pub found_none : (i : ℕ) → length names ≤ i → from_place i ≡ None
  found_none i le = ap (λ (xs : List (Bor (List ℕ))). find p (map (λ s. s.now) xs)) (drop_all i names le)
