-- Sums over the views, of which one changes or one joins.
use Rattle.std.proofs.Common.{◌≡◌, ◌≢◌, ℕ, zero, suc, ◌+◌, ◌≤◌, List, [], ◌∷◌, ◌++◌, set, sym, refl, ap, arith}
use mathlib.Core.Option.{some, some-injective, some-ne-none}
use lib.ListN.{get_elem?}
use Rattle.gl_turn.specs.declared.view.View.{View}
use Rattle.gl_turn.specs.Rule.{total}

pub total-append : (f : View → ℕ) (l m : List View) → total f (l ++ m) ≡ total f l + total f m
total-append f [] m = omega arith
total-append f (x ∷ xs) m = omega (arith, total-append f xs m)

pub total-set : (f : View → ℕ) (l : List View) (j : ℕ) (v w : View) → get_elem? l j ≡ some v → total f (set l j w) + f v ≡ total f l + f w
total-set f [] j v w e = absurd (some-ne-none v (sym e))
total-set f (x ∷ xs) zero v w e = omega (arith, ap f (some-injective x v e))
total-set f (x ∷ xs) (suc j) v w e = omega (arith, total-set f xs j v w e)

pub term_le : (f : View → ℕ) (l : List View) (j : ℕ) (v : View) → get_elem? l j ≡ some v → f v ≤ total f l
term_le f [] j v e = absurd (some-ne-none v (sym e))
term_le f (x ∷ xs) zero v e = omega (arith, ap f (some-injective x v e))
term_le f (x ∷ xs) (suc j) v e = omega (arith, term_le f xs j v e)

-- one sum is no more than another where each of its terms is
pub total_le : (f g : View → ℕ) (l : List View) → ((j : ℕ) (v : View) → get_elem? l j ≡ some v → f v ≤ g v) → total f l ≤ total g l
total_le f g [] below = omega arith
total_le f g (x ∷ xs) below = omega (arith, below 0 x refl, total_le f g xs (λ j v e. below (suc j) v e))

pub terms_le : (f : View → ℕ) (l : List View) (j k : ℕ) (v u : View) → k ≢ j → get_elem? l j ≡ some v → get_elem? l k ≡ some u → f v + f u ≤ total f l
terms_le f [] j k v u n e d = absurd (some-ne-none v (sym e))
terms_le f (x ∷ xs) zero zero v u n e d = absurd (n refl)
terms_le f (x ∷ xs) zero (suc k) v u n e d = omega (arith, ap f (some-injective x v e), term_le f xs k u d)
terms_le f (x ∷ xs) (suc j) zero v u n e d = omega (arith, ap f (some-injective x u d), term_le f xs j v e)
terms_le f (x ∷ xs) (suc j) (suc k) v u n e d = omega (arith, terms_le f xs j k v u (λ h. n (ap suc h)) e d)

pub total_zero : (f : View → ℕ) (l : List View) → ((j : ℕ) (v : View) → get_elem? l j ≡ some v → f v ≡ 0) → total f l ≡ 0
total_zero f [] none = refl
total_zero f (x ∷ xs) none = omega (arith, none 0 x refl, total_zero f xs (λ j v e. none (suc j) v e))

-- a sum of which one term counts
pub total_one : (f : View → ℕ) (l : List View) (i : ℕ) (v : View) → get_elem? l i ≡ some v → ((j : ℕ) (u : View) → j ≢ i → get_elem? l j ≡ some u → f u ≡ 0) → total f l ≡ f v
total_one f [] i v e none = absurd (some-ne-none v (sym e))
total_one f (x ∷ xs) zero v e none = omega (arith, ap f (some-injective x v e), total_zero f xs (λ j u d. none (suc j) u (λ h. omega arith) d))
total_one f (x ∷ xs) (suc i) v e none = omega (arith, none 0 x (λ h. omega arith) refl, total_one f xs i v e (λ j u n d. none (suc j) u (λ h. n (omega (arith, h))) d))
