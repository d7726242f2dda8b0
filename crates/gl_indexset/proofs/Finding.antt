-- The row at a position, among rows in order of position.
use Rattle.std.proofs.Common.{◌≡◌, ◌⊎◌, ⊎_elim, ℕ, zero, suc, ◌<◌, ◌≤◌, ◌==◌, Bool, true, false, ◌||◌, List, [], ◌∷◌, length, get_or, Some, refl, sym, ◌∙◌, ap, subst, arith}
use Rattle.std.specs.List.{slice_get}
use Rattle.std.proofs.lemmas.Bool.Decides.{nat_tests}
use Rattle.std.proofs.lemmas.Option.{get_or_from_slice_get}
use Rattle.gl_indexset.specs.declared.row.Row.{Row}
use Rattle.gl_indexset.specs.Rising.{AreRising}
use Rattle.gl_indexset.specs.Leaving.{has_position}

nowhere : (position : ℕ) (rows : List Row) → ((k : ℕ) (d : Row) → k < length rows → (get_or rows k d).position ≡ position → ⊥) → has_position rows position ≡ false
nowhere position [] apart = refl
nowhere position (row ∷ rows) apart =
    both (row.position == position) (has_position rows position) (differs (row.position == position) refl) (nowhere position rows (λ k d lt. apart (suc k) d (omega (arith, lt))))
  where
    both : (a b : Bool) → a ≡ false → b ≡ false → (a || b) ≡ false
    both true b h i = cc h
    both false b h i = i

    same : (m n : ℕ) → (m == n) ≡ true → m ≡ n
    same m n h = grind (arith, nat_tests)

    differs : (b : Bool) → (row.position == position) ≡ b → (row.position == position) ≡ false
    differs true is = absurd (apart zero row (omega arith) (same row.position position is))
    differs false is = is

three_ways : (k n : ℕ) → (k < n) ⊎ ((k ≡ n) ⊎ (n < k))
three_ways k n = grind arith

module _ (rows : List Row) (position n : ℕ) (before : (k : ℕ) (d : Row) → k < n → (get_or rows k d).position < position) where
  pub not_behind : length rows ≤ n → has_position rows position ≡ false
  not_behind le = nowhere position rows (λ k d lt is. absurd (omega (arith, before k d (omega (arith, lt, le)), is)))

  pub not_here : AreRising rows → (row : Row) → slice_get rows n ≡ Some row → position ≤ row.position → (row.position ≡ position → ⊥) → has_position rows position ≡ false
  not_here rising row is le apart = nowhere position rows (λ k d lt same. ⊎_elim
      (λ (low : k < n). absurd (omega (arith, before k d low, same)))
      (λ (rest : (k ≡ n) ⊎ (n < k)). ⊎_elim
      (λ (here : k ≡ n). apart (ap (λ (r : Row). r.position) (sym (get_or_from_slice_get rows n row d is)) ∙ ap (λ j. (get_or rows j d).position) (sym here) ∙ same))
      (λ (high : n < k). absurd (omega (arith, subst (λ (r : Row). r.position < (get_or rows k d).position) (get_or_from_slice_get rows n row d is) (rising n k d high lt), le, same))) rest)
      (three_ways k n))
