-- What std parses is the whole number of the text.
use Rattle.std.proofs.Common.{◌≡◌, ◌≢◌, ℕ, ◌+◌, ◌<◌, ◌≤◌, Bool, true, false, ◌&&◌, cond, List, [], ◌∷◌, length, drop, get_or, Option, Some, None, Result, Ok, Err, OkIff, ℤ, pos, neg_ℤ, ◌==◌, nat_lt, nat_le, refl, sym, ap, ◌∙◌, subst, arith, tests, eq-eqb, eqb-true, ne_eqb, le-leb, lt-ltb, leb-true, ltb-true, w64}
use Rattle.std.specs.Result.{result_ok}
use Rattle.std.specs.Str.{all_ascii_digits}
use Rattle.std.specs.Str.Parse.{ParsesSigned}
use Rattle.std.proofs.lemmas.Bool.{and_parts, and_from}
use Rattle.std.proofs.lemmas.Bool.Decides.{nat_tests}
use Rattle.std.proofs.lemmas.Str.Parse.{IsNumeralModel, numerals_by_fold, tells_all_ascii_digits, parse_signed_minus, parse_signed_plain}
use Rattle.gl_base.specs.Digits.{decimal}
use Rattle.gl_text.specs.Numbers.{is_digits, is_signed_digits, whole_number}

own : IsNumeralModel (λ ds. all_ascii_digits ds ≡ true) (decimal 0)
own = numerals_by_fold _ tells_all_ascii_digits decimal (record { empty = λ n. refl; more = λ n c cs h. refl })

given : (a b : Bool) (z : ℤ) → a ≡ true → b ≡ true → Some z ≡ cond a (cond b (Some z) None) None
given true true z h k = refl
given true false z h k = cc k
given false b z h k = cc h

refused : (a b : Bool) (z : ℤ) → (a ≡ true → b ≡ true → ⊥) → None ≡ cond a (cond b (Some z) None) None
refused true true z apart = absurd (apart refl refl)
refused true false z apart = refl
refused false b z apart = refl

digits_from : (ds : List ℕ) → all_ascii_digits ds ≡ true → 0 < length ds → is_digits ds ≡ true
digits_from ds h some = and_from (nat_lt 0 (length ds)) (all_ascii_digits ds) (lt-ltb 0 (length ds) some) h

by_sign : {E : Type 0} (r : Result ℤ E) (ds : List ℕ) (small : Bool) (P : Type 0) (z : ℤ) → (P → small ≡ true) → (small ≡ true → P) →
    OkIff r ((all_ascii_digits ds ≡ true) × (0 < length ds) × P) z → result_ok r ≡ cond (is_digits ds) (cond small (Some z) None) None
by_sign (Ok x) ds small P z to from h = ap Some h.1 ∙ given (is_digits ds) small z (digits_from ds h.0.0 h.0.1) (to h.0.2)
by_sign (Err e) ds small P z to from h =
    refused (is_digits ds) small z (λ a b.
    let parts = and_parts (nat_lt 0 (length ds)) (all_ascii_digits ds) a in
    h (parts.1, ltb-true 0 (length ds) parts.0, from b))

first_digit : (ds : List ℕ) → is_digits ds ≡ true → (48 ≤ get_or ds 0 0) × (get_or ds 0 0 ≤ 57)
first_digit [] h = cc h
first_digit (d ∷ ds) h = grind (arith, nat_tests)

no_digits : (ds : List ℕ) → get_or ds 0 0 < 48 → is_digits ds ≡ false
no_digits ds less = pick (is_digits ds) refl
  where
    pick : (b : Bool) → is_digits ds ≡ b → is_digits ds ≡ false
    pick true e = absurd (omega (arith, (first_digit ds e).0))
    pick false e = e

abbrev plain : List ℕ → Option ℤ
plain text = cond (nat_lt (decimal 0 text) 9223372036854775808) (Some (pos (decimal 0 text))) None

abbrev minus : List ℕ → Option ℤ
minus text = cond (nat_le (decimal 0 (drop 1 text)) 9223372036854775808) (Some (neg_ℤ (pos (decimal 0 (drop 1 text))))) None

by_tests : (text : List ℕ) (a b : Bool) → is_digits text ≡ a → is_signed_digits text ≡ b → whole_number text ≡ cond a (plain text) (cond b (minus text) None)
unfolding whole_number
by_tests text a b h k = ap (λ t. cond t (plain text) (cond (is_signed_digits text) (minus text) None)) h ∙ ap (λ t. cond a (plain text) (cond t (minus text) None)) k

unsigned : (text : List ℕ) → get_or text 0 0 ≢ 45 → is_signed_digits text ≡ false
unsigned text other = ap (λ t. t && is_digits (drop 1 text)) (ne_eqb (get_or text 0 0) 45 other)

signed : (text : List ℕ) → get_or text 0 0 ≡ 45 → is_signed_digits text ≡ is_digits (drop 1 text)
signed text minus = ap (λ t. t && is_digits (drop 1 text)) (eq-eqb (get_or text 0 0) 45 minus)

pub with_plus : (text : List ℕ) → get_or text 0 0 ≡ 43 → None ≡ whole_number text
with_plus text plus = sym (by_tests text false false (no_digits text (omega arith)) (unsigned text (omega arith)))

with_minus : {E : Type 0} (text : List ℕ) (r : Result ℤ E) → ParsesSigned w64 10 text r → get_or text 0 0 ≡ 45 → result_ok r ≡ whole_number text
with_minus text r h first =
    by_sign r (drop 1 text) _ (decimal 0 (drop 1 text) ≤ 9223372036854775808) _ (λ less. le-leb _ _ less) (λ test. leb-true _ _ test) (parse_signed_minus own w64 text r h first)
    ∙ ap (λ t. cond t (minus text) None) (sym (signed text first))
    ∙ sym (by_tests text false (is_signed_digits text) (no_digits text (omega arith)) refl)

without_sign : {E : Type 0} (text : List ℕ) (r : Result ℤ E) → ParsesSigned w64 10 text r → get_or text 0 0 ≢ 43 → get_or text 0 0 ≢ 45 → result_ok r ≡ whole_number text
without_sign text r h plus minus =
    by_sign r text _ (decimal 0 text < 9223372036854775808) _ (λ less. lt-ltb _ _ less) (λ test. ltb-true _ _ test) (parse_signed_plain own w64 text r h plus minus)
    ∙ sym (by_tests text (is_digits text) false refl (unsigned text minus))

pub parsed : {E : Type 0} (text : List ℕ) (r : Result ℤ E) → ParsesSigned w64 10 text r → get_or text 0 0 ≢ 43 → result_ok r ≡ whole_number text
parsed text r h plus = pick (get_or text 0 0 == 45) refl
  where
    pick : (b : Bool) → (get_or text 0 0 == 45) ≡ b → result_ok r ≡ whole_number text
    pick true e = with_minus text r h (eqb-true (get_or text 0 0) 45 e)
    pick false e = without_sign text r h plus (λ same. search (Rattle.std.proofs.Common.rules, tests))
