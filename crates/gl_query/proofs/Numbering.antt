-- A number that was printed reads back.
use Rattle.std.proofs.Common.{◌≡◌, ℕ, zero, suc, ◌+◌, ◌-◌, ◌*◌, ◌/◌, ◌%◌, ◌^◌, ◌<◌, ◌≤◌, ◌==◌, nat_le, nat_lt, Bool, true, false, cond, not, ◌&&◌, ◌||◌, List, [], ◌∷◌, ◌++◌, length, get_or, drop, ℤ, pos, negsuc, neg_ℤ, Option, Some, None, codes, refl, sym, ap, ◌∙◌, subst, arith}
use Rattle.std.proofs.lemmas.Bool.Decides.{nat_tests}
use Rattle.std.proofs.lemmas.Fmt.{decimal_by_steps}
use Rattle.std.specs.Fmt.{decimal, signed_decimal}
use Rattle.std.specs.Char.{is_ascii_digit}
use lib.Signed.{mag}
use Rattle.gl_query.specs.Tokens.{ends_word}
use Rattle.gl_base.specs.Digits.{digits_within, magnitude_from, signed_number}
use Rattle.gl_query.specs.Words.{number_of, bound_of, is_any_run, some_bound}
use Rattle.gl_query.specs.Printing.{is_keyword}
use Rattle.gl_query.proofs.Spelling.{Runs, runs_append, byte_runs, opens_word, keyword_cases, bytes_same}

small_digit : (r : ℕ) → r < 10 → is_ascii_digit (48 + r) ≡ true
small_digit r lt = grind (arith, nat_tests)

digit_step : (k r v : ℕ) → r < 10 → k * 10 + r ≡ v → v ≤ 2 ^ 63 → magnitude_from k ((48 + r) ∷ []) ≡ Some v
unfolding digits_within
digit_step k r v lt e le =
    let n = k * 10 + (48 + r - 48) in
    let same : n ≡ v = omega (arith, e) in
    ap (λ x. cond (x && nat_le n (2 ^ 63)) (Some n) None) (small_digit r lt)
    ∙ ap (λ m. cond (nat_le m (2 ^ 63)) (Some m) None) same
    ∙ ap (λ x. cond x (Some v) None) (at_most v le)
  where
    at_most : (v : ℕ) → v ≤ 2 ^ 63 → nat_le v (2 ^ 63) ≡ true
    at_most v le = grind (arith, nat_tests)

magnitude_append : (ds es : List ℕ) (k m : ℕ) → magnitude_from k ds ≡ Some m → magnitude_from k (ds ++ es) ≡ magnitude_from m es
unfolding digits_within
magnitude_append [] es k m h = let same : k ≡ m = cc h in ap (λ n. magnitude_from n es) same
magnitude_append (d ∷ ds) es k m h =
    let n = k * 10 + (d - 48) in
    step (is_ascii_digit d && nat_le n (2 ^ 63)) (magnitude_from n ds) (magnitude_from n (ds ++ es)) (magnitude_from m es) (λ e. magnitude_append ds es n m e) h
  where
    step : (x : Bool) (a b c : Option ℕ) → (a ≡ Some m → b ≡ c) → cond x a None ≡ Some m → cond x b None ≡ c
    step true a b c more h = more h
    step false a b c more h = cc h

decimal_magnitude : (n : ℕ) → n ≤ 2 ^ 63 → magnitude_from 0 (decimal n) ≡ Some n
decimal_magnitude n le =
    decimal_by_steps (λ m ds. m ≤ 2 ^ 63 → magnitude_from 0 ds ≡ Some m)
    (λ m lt small. digit_step 0 m m lt (omega arith) small)
    (λ m ds many before small. magnitude_append ds ((48 + m % 10) ∷ []) 0 (m / 10) (before (omega (arith, small))) ∙ digit_step (m / 10) (m % 10) m (omega arith) (omega arith) small)
    n (omega (arith, le)) le

-- digits
no_end : (d : ℕ) → is_ascii_digit d ≡ true → ends_word d ≡ false
no_end d h =
    rw (other 32 refl) (rw (other 40 refl) (rw (other 41 refl) (rw (other 34 refl) (rw (other 58 refl) (rw (other 91 refl) (rw (other 93 refl) (rw (other 123 refl)
    (rw (other 125 refl) (rw (other 60 refl) (rw (other 62 refl) (rw (other 33 refl) (rw (other 38 refl) (rw (other 124 refl) refl)))))))))))))
  where
    other : (k : ℕ) → is_ascii_digit k ≡ false → (d == k) ≡ false
    other k n = pick (d == k) refl
      where
        pick : (x : Bool) → (d == k) ≡ x → x ≡ false
        pick true e = let same : d ≡ k = grind (arith, nat_tests) in cc (sym h ∙ ap is_ascii_digit same ∙ n)
        pick false e = refl

no_backslash : (d : ℕ) → is_ascii_digit d ≡ true → (d == 92) ≡ false
no_backslash d h = grind (arith, nat_tests)

digit_runs : (r : ℕ) → r < 10 → Runs ((48 + r) ∷ [])
digit_runs r lt = byte_runs (48 + r) (no_end (48 + r) (small_digit r lt)) (no_backslash (48 + r) (small_digit r lt))

decimal_runs : (n : ℕ) → n < 2 ^ 64 → Runs (decimal n)
decimal_runs n lt = decimal_by_steps (λ m ds. Runs ds) (λ m few. digit_runs m few) (λ m ds many before. runs_append ds ((48 + m % 10) ∷ []) before (digit_runs (m % 10) (omega arith))) n lt

abbrev starts_digit : List ℕ → Bool
starts_digit [] = false
starts_digit (d ∷ ds) = is_ascii_digit d

starts_append : (ds es : List ℕ) → starts_digit ds ≡ true → starts_digit (ds ++ es) ≡ true
starts_append [] es h = cc h
starts_append (d ∷ ds) es h = h

decimal_starts : (n : ℕ) → n < 2 ^ 64 → starts_digit (decimal n) ≡ true
decimal_starts n lt = decimal_by_steps (λ m ds. starts_digit ds ≡ true) (λ m few. small_digit m few) (λ m ds many before. starts_append ds ((48 + m % 10) ∷ []) before) n lt

abbrev starts_number : List ℕ → Bool
starts_number [] = false
starts_number (d ∷ ds) = is_ascii_digit d || d == 45

digits_number : (ds : List ℕ) → starts_digit ds ≡ true → starts_number ds ≡ true
digits_number [] h = cc h
digits_number (d ∷ ds) h = ap (λ x. x || d == 45) h

digits_opens : (ds : List ℕ) → starts_digit ds ≡ true → opens_word ds ≡ true
digits_opens [] h = cc h
digits_opens (d ∷ ds) h = ap not (no_end d h)

number_free : (w : List ℕ) → starts_number w ≡ true → is_keyword w ≡ false
number_free w h = pick (is_keyword w) refl
  where
    pick : (x : Bool) → is_keyword w ≡ x → x ≡ false
    pick true e = cc (sym h ∙ keyword_cases (λ v. starts_number v ≡ false) refl refl refl refl refl w e)
    pick false e = refl

number_no_star : (w : List ℕ) → starts_number w ≡ true → is_any_run w ≡ false
number_no_star w h = pick (is_any_run w) refl
  where
    pick : (x : Bool) → is_any_run w ≡ x → x ≡ false
    pick true e = cc (sym h ∙ ap starts_number (bytes_same w (codes "*") e))
    pick false e = refl

-- a word that is a number
pub record IsNumberWord (w : List ℕ) (n : ℤ) : Type 0 where
  pub runs : Runs w
  pub opens : opens_word w ≡ true
  pub free : is_keyword w ≡ false
  pub bound : bound_of w ≡ Some (Some n)

bound_number : (w : List ℕ) (n : ℤ) → starts_number w ≡ true → number_of w ≡ Some n → bound_of w ≡ Some (Some n)
bound_number w n s h = ap (λ x. cond x (Some None) (some_bound (number_of w))) (number_no_star w s) ∙ ap some_bound h

plain_number : (ds : List ℕ) (n : ℕ) → starts_digit ds ≡ true → magnitude_from 0 ds ≡ Some n → n < 2 ^ 63 → number_of ds ≡ Some (pos n)
plain_number [] n s m lt = cc s
plain_number (d ∷ ds) n s m lt =
    ap (λ x. cond x (cond (nat_lt (length (d ∷ ds)) 2) None (signed_number true (magnitude_from 0 ds))) (cond (length (d ∷ ds) == 0) None (signed_number false (magnitude_from 0 (d ∷ ds))))) (no_minus d s)
    ∙ ap (λ x. cond x None (signed_number false (magnitude_from 0 (d ∷ ds)))) (not_empty (length (d ∷ ds)) (omega arith))
    ∙ ap (λ o. signed_number false o) m
    ∙ ap (λ x. cond x (Some (pos n)) None) (below n lt)
  where
    no_minus : (d : ℕ) → is_ascii_digit d ≡ true → (d == 45) ≡ false
    no_minus d h = grind (arith, nat_tests)

    below : (n : ℕ) → n < 2 ^ 63 → nat_lt n (2 ^ 63) ≡ true
    below n lt = grind (arith, nat_tests)

    not_empty : (n : ℕ) → 0 < n → (n == 0) ≡ false
    not_empty n lt = grind (arith, nat_tests)

minus_number : (ds : List ℕ) (n : ℕ) → starts_digit ds ≡ true → magnitude_from 0 ds ≡ Some n → number_of (45 ∷ ds) ≡ Some (neg_ℤ (pos n))
minus_number [] n s m = cc s
minus_number (d ∷ ds) n s m =
    ap (λ x. cond x None (signed_number true (magnitude_from 0 (d ∷ ds)))) (long (length (45 ∷ d ∷ ds)) (omega arith)) ∙ ap (λ o. signed_number true o) m
  where
    long : (n : ℕ) → 2 ≤ n → nat_lt n 2 ≡ false
    long n le = grind (arith, nat_tests)

minus_runs : (ds : List ℕ) → Runs ds → Runs (45 ∷ ds)
minus_runs ds r = runs_append (45 ∷ []) ds (byte_runs 45 refl refl) r

pub number_word : (z : ℤ) → mag z < 2 ^ 63 → IsNumberWord (signed_decimal z) z
number_word (pos n) lt =
    let s = decimal_starts n (omega (arith, lt)) in
    record {
      runs = decimal_runs n (omega (arith, lt));
      opens = digits_opens (decimal n) s;
      free = number_free (decimal n) (digits_number (decimal n) s);
      bound = bound_number (decimal n) (pos n) (digits_number (decimal n) s) (plain_number (decimal n) n s (decimal_magnitude n (omega (arith, lt))) lt);
    }
number_word (negsuc n) lt =
    let s = decimal_starts (suc n) (omega (arith, lt)) in
    record {
      runs = minus_runs (decimal (suc n)) (decimal_runs (suc n) (omega (arith, lt)));
      opens = refl;
      free = number_free (45 ∷ decimal (suc n)) refl;
      bound = bound_number (45 ∷ decimal (suc n)) (negsuc n) refl (minus_number (decimal (suc n)) (suc n) s (decimal_magnitude (suc n) (omega (arith, lt))));
    }

-- a number that was read is in 64 bits
magnitude_small : (ds : List ℕ) (k n : ℕ) → k ≤ 2 ^ 63 → magnitude_from k ds ≡ Some n → n ≤ 2 ^ 63
unfolding digits_within
magnitude_small [] k n le h = let same : k ≡ n = cc h in omega (arith, le, same)
magnitude_small (d ∷ ds) k n le h =
    let m = k * 10 + (d - 48) in
    step (is_ascii_digit d) (nat_le m (2 ^ 63)) m (magnitude_from m ds) refl (λ small e. magnitude_small ds m n small e) h
  where
    step : (x y : Bool) (m : ℕ) (o : Option ℕ) → nat_le m (2 ^ 63) ≡ y → (m ≤ 2 ^ 63 → o ≡ Some n → n ≤ 2 ^ 63) → cond (x && y) o None ≡ Some n → n ≤ 2 ^ 63
    step true true m o e more h = more (grind (arith, nat_tests)) h
    step true false m o e more h = cc h
    step false y m o e more h = cc h

negative_small : (n : ℕ) → n ≤ 2 ^ 63 → mag (neg_ℤ (pos n)) < 2 ^ 63
negative_small zero le = omega arith
negative_small (suc n) le = omega (arith, le)

signed_small : (negative : Bool) (o : Option ℕ) (z : ℤ) → ((n : ℕ) → o ≡ Some n → n ≤ 2 ^ 63) → signed_number negative o ≡ Some z → mag z < 2 ^ 63
signed_small true None z small h = cc h
signed_small false None z small h = cc h
signed_small true (Some n) z small h = let same : neg_ℤ (pos n) ≡ z = cc h in subst (λ y. mag y < 2 ^ 63) same (negative_small n (small n refl))
signed_small false (Some n) z small h = step (nat_lt n (2 ^ 63)) refl h
  where
    step : (x : Bool) → nat_lt n (2 ^ 63) ≡ x → cond x (Some (pos n)) None ≡ Some z → mag z < 2 ^ 63
    step true e h = let same : pos n ≡ z = cc h in subst (λ y. mag y < 2 ^ 63) same (let lt : n < 2 ^ 63 = grind (arith, nat_tests) in lt)
    step false e h = cc h

pub number_small : (w : List ℕ) (z : ℤ) → number_of w ≡ Some z → mag z < 2 ^ 63
number_small w z h = step (get_or w 0 0 == 45) (nat_lt (length w) 2) (length w == 0) h
  where
    all : (ds : List ℕ) (n : ℕ) → magnitude_from 0 ds ≡ Some n → n ≤ 2 ^ 63
    all ds n e = magnitude_small ds 0 n (omega arith) e

    step : (x y v : Bool) → cond x (cond y None (signed_number true (magnitude_from 0 (drop 1 w)))) (cond v None (signed_number false (magnitude_from 0 w))) ≡ Some z → mag z < 2 ^ 63
    step true true v h = cc h
    step true false v h = signed_small true (magnitude_from 0 (drop 1 w)) z (all (drop 1 w)) h
    step false y true h = cc h
    step false y false h = signed_small false (magnitude_from 0 w) z (all w) h
