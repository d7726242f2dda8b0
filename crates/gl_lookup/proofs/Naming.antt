-- The place of a column, name by name.
use Rattle.std.proofs.Common.{◌≡◌, ℕ, zero, suc, ◌+◌, ◌<◌, ◌≤◌, true, false, List, [], ◌∷◌, length, drop, Option, Some, None, refl, sym, ap, ◌∙◌, arith, add-one}
use Rattle.std.proofs.lemmas.List.{drop_all}
use Rattle.std.specs.List.{position_from}
use Rattle.std.specs.Str.{bytes_eq}
use Rattle.csv.specs.Records.{field_at}
use Rattle.gl_lookup.specs.Rows.{cell}

drop-cell : (at : ℕ) (names : List (List ℕ)) → at < length names → drop at names ≡ cell at names ∷ drop (suc at) names
unfolding field_at
drop-cell at [] lt = absurd (omega arith)
drop-cell zero (name ∷ names) lt = refl
drop-cell (suc at) (name ∷ names) lt = drop-cell at names (omega arith)

module _ (name : List ℕ) (names : List (List ℕ)) where
  -- where the names from a place on have it
  abbrev pub from_place : ℕ → Option ℕ
  from_place i = position_from (λ other. bytes_eq other name) i (drop i names)

  pub column_here : (at : ℕ) → at < length names → bytes_eq (cell at names) name ≡ true → from_place at ≡ Some at
  column_here at lt e = ap (position_from (λ other. bytes_eq other name) at) (drop-cell at names lt) ∙ rw e refl

  pub column_later : (at : ℕ) → at < length names → bytes_eq (cell at names) name ≡ false → from_place at ≡ from_place (at + 1)
  column_later at lt e =
      ap (position_from (λ other. bytes_eq other name) at) (drop-cell at names lt) ∙ rw e refl
      ∙ ap (λ (n : ℕ). position_from (λ other. bytes_eq other name) (at + 1) (drop n names)) (sym (add-one at))

  pub column_none : (at : ℕ) → length names ≤ at → from_place at ≡ None
  column_none at le = ap (position_from (λ other. bytes_eq other name) at) (drop_all at names le)
