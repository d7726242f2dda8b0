-- A name is looked for among the functions whose names begin with its letter.
use Rattle.std.proofs.Common.{◌≡◌, ℕ, ◌<◌, ◌≤◌, Bool, true, false, ◌==◌, List, [], ◌∷◌, None, length, get_or, find, refl, sym, subst, eqb-true, arith}
use Rattle.gl_check.specs.Functions.{functions, has_name, function_named}
use Rattle.gl_check.specs.Letters.{beginning_with}

abbrev Same : List ℕ → ℕ → Type 0
Same rest b = find (has_name (b ∷ rest)) (beginning_with b) ≡ find (has_name (b ∷ rest)) functions

-- at this letter, or at each other
one_or_other : (b k : ℕ) (P : ℕ → Type 0) → P k → ((b == k) ≡ false → P b) → P b
one_or_other b k P here there = at (b == k) refl
  where
    at : (t : Bool) → (b == k) ≡ t → P b
    at true e = subst P (sym (eqb-true b k e)) here
    at false e = there e

same_letter : (b : ℕ) (rest : List ℕ) → Same rest b
same_letter b rest =
    one_or_other b 97 (Same rest) refl (λ e97.
    one_or_other b 99 (Same rest) refl (λ e99.
    one_or_other b 100 (Same rest) refl (λ e100.
    one_or_other b 101 (Same rest) refl (λ e101.
    one_or_other b 104 (Same rest) refl (λ e104.
    one_or_other b 105 (Same rest) refl (λ e105.
    one_or_other b 108 (Same rest) refl (λ e108.
    one_or_other b 114 (Same rest) refl (λ e114.
    one_or_other b 115 (Same rest) refl (λ e115.
    one_or_other b 116 (Same rest) refl (λ e116.
    one_or_other b 117 (Same rest) refl (λ e117.
    simp (e97, e99, e100, e101, e104, e105, e108, e114, e115, e116, e117))))))))))))

pub by_letter : (b : ℕ) (rest : List ℕ) → find (has_name (b ∷ rest)) (beginning_with b) ≡ function_named (b ∷ rest)
unfolding function_named
by_letter b rest = same_letter b rest

pub no_letter : (name : List ℕ) → length name < 1 → None ≡ function_named name
unfolding function_named
no_letter [] short = refl
no_letter (b ∷ rest) short = absurd (omega (arith, short))

pub by_first : (name : List ℕ) → 1 ≤ length name → find (has_name name) (beginning_with (get_or name 0 0)) ≡ function_named name
by_first [] long = absurd (omega (arith, long))
by_first (b ∷ rest) long = by_letter b rest
