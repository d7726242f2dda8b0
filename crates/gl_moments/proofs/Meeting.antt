-- Minutes and spans of time.
use Rattle.std.proofs.Common.{◌≡◌, ℕ, ◌*◌, ◌/◌, ◌<◌, ◌≤◌, Bool, true, false, nat_le, nat_lt, ℤ, refl, sym, ◌+◌, arith}
use Rattle.std.specs.Prelude.{pos, negsuc, int_le, int_lt}
use Rattle.std.proofs.lemmas.Bool.{and_parts, and_from}
use Rattle.std.proofs.lemmas.Bool.Decides.{nat_tests}
use Rattle.std.proofs.lemmas.Int.{ints}
use Rattle.std.proofs.lemmas.Nat.{div-add-mod', le-div}
use Rattle.gl_moments.specs.Minutes.{is_met, minute_at}
use Rattle.gl_pages.specs.Pages.{is_between}

pub at_most : (a b : ℕ) → nat_le a b ≡ true → a ≤ b
at_most a b h = grind (arith, nat_tests)

pub tests_at_most : (a b : ℕ) → a ≤ b → nat_le a b ≡ true
tests_at_most a b h = grind (arith, nat_tests)

pub below : (a b : ℕ) → nat_lt a b ≡ true → a < b
below a b h = grind (arith, nat_tests)

pub tests_below : (a b : ℕ) → a < b → nat_lt a b ≡ true
tests_below a b h = grind (arith, nat_tests)

pub tests_above : (a b : ℕ) → b ≤ a → nat_lt a b ≡ false
tests_above a b h = grind (arith, nat_tests)

from_pos : (a b : ℕ) → int_le (pos a) (pos b) ≡ true → a ≤ b
from_pos a b h = grind (arith, ints)

before_pos : (a b : ℕ) → int_lt (pos a) (pos b) ≡ true → a < b
before_pos a b h = grind (arith, ints)

never : (a b : ℕ) → int_le (pos a) (negsuc b) ≡ true → ⊥
never a b h = grind (arith, ints)

-- whole minutes
minutes_rise : (a b : ℕ) → a ≤ b → a / 60000 ≤ b / 60000
minutes_rise a b le = le-div (a / 60000) b 60000 (omega arith) (omega (arith, div-add-mod' a 60000, le))

begins_by : (a b : ℕ) → a < b → a / 60000 * 60000 < b
begins_by a b lt = omega (arith, div-add-mod' a 60000, lt)

pub met : (from to : ℕ) (time : ℤ) → is_between from to time ≡ true → is_met from to (minute_at time) ≡ true
met from to (pos n) h =
    let parts = and_parts (int_le (pos from) (pos n)) (int_lt (pos n) (pos to)) h in
    and_from (nat_le (from / 60000) (n / 60000)) (nat_lt (n / 60000 * 60000) to)
    (tests_at_most (from / 60000) (n / 60000) (minutes_rise from n (from_pos from n parts.0)))
    (tests_below (n / 60000 * 60000) to (begins_by n to (before_pos n to parts.1)))
met from to (negsuc n) h = absurd (never from n (and_parts (int_le (pos from) (negsuc n)) (int_lt (negsuc n) (pos to)) h).0)

-- a minute begins before a moment just where it isn't above that of the millisecond before
pub begins_test : (minute last to : ℕ) → to ≡ last + 1 → nat_le minute (last / 60000) ≡ nat_lt (minute * 60000) to
begins_test minute last to is = same_test (nat_le minute (last / 60000)) (nat_lt (minute * 60000) to)
    (λ h. let le : minute ≤ last / 60000 = at_most minute (last / 60000) h in
    tests_below (minute * 60000) to (omega (arith, le, div-add-mod' last 60000, is)))
    (λ h. let lt : minute * 60000 < to = below (minute * 60000) to h in
    tests_at_most minute (last / 60000) (le-div minute last 60000 (omega arith) (omega (arith, lt, is))))
  where
    same_test : (r s : Bool) → (r ≡ true → s ≡ true) → (s ≡ true → r ≡ true) → r ≡ s
    same_test true s f g = sym (f refl)
    same_test false true f g = g refl
    same_test false false f g = refl
