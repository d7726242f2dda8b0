-- Seconds in milliseconds.
use Rattle.std.proofs.Common.{◌≡◌, ℕ, zero, suc, ◌+◌, ◌-◌, ◌*◌, ◌/◌, ◌^◌, ◌≤◌, ◌<◌, Bool, true, false, not, cond, ◌&&◌, List, [], ◌∷◌, ◌++◌, length, take, min, refl, sym, ap, subst, ◌∙◌, arith, leb, ltb, eqb, ◌≢◌, Option, Some, None, inl, inr}
use Rattle.std.specs.List.{list_all}
use Rattle.std.proofs.Math.Nat.{one-le-pow, pow-le-pow_right, mul_assoc, mul-le-mul_right, zero-div, zero-mul}
use Rattle.std.proofs.lemmas.List.{length-append}
use Rattle.std.proofs.lemmas.Bool.Decides.{nat_tests}
use Rattle.std.proofs.lemmas.Nat.{pow-add, le-div}
use Rattle.std.proofs.lemmas.Bool.{cases_lt, lt-ltb, false≢true}
use Rattle.gl_base.specs.Bytes.{is_digit, behind_first}
use Rattle.gl_base.specs.Digits.{decimal}
use Rattle.gl_gelf.specs.declared.number.Number.{Number}
use Rattle.gl_gelf.specs.Decimals.{significand, exponent, is_lowered, rises, falls, milliseconds, moment_in, moment_of}
use Rattle.gl_base.specs.Digits.{within, digits_within}
use Rattle.gl_gelf.specs.NumberParts.{IsNumberIn}
use Rattle.gl_gelf.proofs.Numbers.{grows, decimal-append, all_within}
use Rattle.gl_gelf.proofs.Shifting.{shift, all_append, all_take, within_none, within_above, within_some}

-- the first digits of two parts

digits_first : (w f : List ℕ) (c : ℕ) → decimal 0 (take c (w ++ f)) ≡ decimal (decimal 0 (take c w)) (take (c - length w) f)
digits_first w f c = ap (decimal 0) (take_both w f c) ∙ decimal-append 0 (take c w) (take (c - length w) f)
  where
    take_both : (w f : List ℕ) (c : ℕ) → take c (w ++ f) ≡ take c w ++ take (c - length w) f
    take_both [] f zero = refl
    take_both [] f (suc c) = ap (λ (n : ℕ). take n f) (let e : suc c ≡ suc c - 0 = omega arith in e)
    take_both (x ∷ w) f zero = let e : zero - length (x ∷ w) ≡ zero = omega arith in rw e refl
    take_both (x ∷ w) f (suc c) = let e : suc c - length (x ∷ w) ≡ c - length w = omega arith in rw e (ap (λ (l : List ℕ). x ∷ l) (take_both w f c))

at_least : (n m k : ℕ) → n ≤ m → n ≤ m * 10 ^ k
at_least n m k h =
    let p = one-le-pow k 10 (omega arith) in
    let q : m * 1 ≤ m * 10 ^ k = mul-le m p in omega arith
  where
    mul-le : (m : ℕ) {p : ℕ} → 1 ≤ p → m * 1 ≤ m * p
    mul-le m {p} h = grind arith

pub none_first : (most c : ℕ) (w f ds : List ℕ) (r s : Option ℕ) → list_all is_digit w ≡ true → ds ≡ take c w → r ≡ digits_within most 0 ds → r ≡ None → s ≡ None
    → s ≡ within most (decimal 0 (take c (w ++ f)) * 10 ^ (c - length (w ++ f)))
none_first most c w f ds r s all e read none is =
    let d : list_all is_digit ds ≡ true = subst (λ (l : List ℕ). list_all is_digit l ≡ true) (sym e) (all_take is_digit c w all) in
    let a : within most (decimal 0 ds) ≡ None = sym (all_within most 0 ds (omega arith) d) ∙ sym read ∙ none in
    let a2 : within most (decimal 0 (take c w)) ≡ None = subst (λ (l : List ℕ). within most (decimal 0 l) ≡ None) e a in
    let g = grows (decimal 0 (take c w)) (take (c - length w) f) in
    let g2 : decimal 0 (take c w) ≤ decimal 0 (take c (w ++ f)) = subst (λ (n : ℕ). decimal 0 (take c w) ≤ n) (sym (digits_first w f c)) g in
    is ∙ sym (within_none most (decimal 0 (take c w)) (decimal 0 (take c (w ++ f)) * 10 ^ (c - length (w ++ f))) a2 (at_least (decimal 0 (take c w)) (decimal 0 (take c (w ++ f))) (c - length (w ++ f)) g2))

read_first : (most c a : ℕ) (w ds : List ℕ) (r : Option ℕ) → list_all is_digit w ≡ true → ds ≡ take c w → r ≡ digits_within most 0 ds → r ≡ Some a → decimal 0 (take c w) ≡ a
read_first most c a w ds r all e read some =
    let d : list_all is_digit ds ≡ true = subst (λ (l : List ℕ). list_all is_digit l ≡ true) (sym e) (all_take is_digit c w all) in
    ap (decimal 0) (sym e) ∙ within_some most (decimal 0 ds) a (sym (all_within most 0 ds (omega arith) d) ∙ sym read ∙ some)

pub none_then : (most c a b : ℕ) (w f ds es : List ℕ) (q r s : Option ℕ) → list_all is_digit w ≡ true → list_all is_digit f ≡ true → ds ≡ take c w → q ≡ digits_within most 0 ds → q ≡ Some a → a ≤ most
    → b ≡ c - length w → es ≡ take b f → r ≡ digits_within most a es → r ≡ None → s ≡ None → s ≡ within most (decimal 0 (take c (w ++ f)) * 10 ^ (c - length (w ++ f)))
none_then most c a b w f ds es q r s all all_f e read some low b_is e_f read_f none is =
    let d : list_all is_digit es ≡ true = subst (λ (l : List ℕ). list_all is_digit l ≡ true) (sym e_f) (all_take is_digit b f all_f) in
    let first = read_first most c a w ds q all e read some in
    let x : within most (decimal a es) ≡ None = sym (all_within most a es low d) ∙ sym read_f ∙ none in
    let y : decimal 0 (take c (w ++ f)) ≡ decimal a es = digits_first w f c ∙ ap (λ (n : ℕ). decimal n (take (c - length w) f)) first ∙ ap (λ (n : ℕ). decimal a (take n f)) (sym b_is) ∙ ap (decimal a) (sym e_f) in
    is ∙ sym (within_none most (decimal a es) (decimal 0 (take c (w ++ f)) * 10 ^ (c - length (w ++ f))) x (at_least (decimal a es) (decimal 0 (take c (w ++ f))) (c - length (w ++ f)) (let z : decimal a es ≤ decimal 0 (take c (w ++ f)) = omega arith in z)))

pub read_both : (most c a b n k : ℕ) (w f ds es : List ℕ) (q r s : Option ℕ) → list_all is_digit w ≡ true → list_all is_digit f ≡ true → ds ≡ take c w → q ≡ digits_within most 0 ds → q ≡ Some a → a ≤ most
    → b ≡ c - length w → es ≡ take b f → r ≡ digits_within most a es → r ≡ Some n → k ≡ b - length f → s ≡ within most (n * 10 ^ k) → s ≡ within most (decimal 0 (take c (w ++ f)) * 10 ^ (c - length (w ++ f)))
read_both most c a b n k w f ds es q r s all all_f e read some low b_is e_f read_f some_f k_is is =
    let d : list_all is_digit es ≡ true = subst (λ (l : List ℕ). list_all is_digit l ≡ true) (sym e_f) (all_take is_digit b f all_f) in
    let first = read_first most c a w ds q all e read some in
    let x : decimal a es ≡ n = within_some most (decimal a es) n (sym (all_within most a es low d) ∙ sym read_f ∙ some_f) in
    let y : decimal 0 (take c (w ++ f)) ≡ decimal a es = digits_first w f c ∙ ap (λ (n : ℕ). decimal n (take (c - length w) f)) first ∙ ap (λ (n : ℕ). decimal a (take n f)) (sym b_is) ∙ ap (decimal a) (sym e_f) in
    let z : k ≡ c - length (w ++ f) = omega (arith, length-append w f) in
    is ∙ ap (λ (j : ℕ). within most (n * 10 ^ j)) z ∙ ap (λ (m : ℕ). within most (m * 10 ^ (c - length (w ++ f)))) (sym (y ∙ x))

-- the exponent

thousand : (d r : ℕ) → d * 1000 * 10 ^ r ≡ d * 10 ^ (3 + r)
thousand d r = mul_assoc d 1000 (10 ^ r) ∙ ap (λ (n : ℕ). d * n) (sym (pow-add 10 3 r))

large : (d up down : ℕ) → 0 < d → 20 + down ≤ up → 253402300799999 < d * 10 ^ up / 10 ^ down
large d up down some h =
    let p = one-le-pow down 10 (omega arith) in
    let a : 10 ^ (20 + down) ≤ 10 ^ up = pow-le-pow_right (let z : 0 < 10 = omega arith in z) h in
    let b : 10 ^ (20 + down) ≡ 100000000000000000000 * 10 ^ down = pow-add 10 20 down in
    let m : 1 * 10 ^ up ≤ d * 10 ^ up = mul-le-mul_right (10 ^ up) (let z : 1 ≤ d = omega arith in z) in
    let q : 100000000000000000000 ≤ d * 10 ^ up / 10 ^ down = le-div 100000000000000000000 (d * 10 ^ up) (10 ^ down) (let z : 0 < 10 ^ down = omega arith in z) (let z : 100000000000000000000 * 10 ^ down ≤ d * 10 ^ up = omega arith in z) in
    omega arith

pub lowered : (w f : List ℕ) (big e c : ℕ) (s : Option ℕ) → list_all is_digit w ≡ true → list_all is_digit f ≡ true → length w < 18446744073709551616 → e ≡ min big 100000000000000000000 → c ≡ length w + 3 - e
    → s ≡ within 253402300799999 (decimal 0 (take c (w ++ f)) * 10 ^ (c - length (w ++ f))) → s ≡ within 253402300799999 (decimal 0 (w ++ f) * 1000 * 10 ^ 0 / 10 ^ (length f + big))
lowered w f big e c s all all_f short e_is c_is is =
    let k : c ≡ length (w ++ f) + (3 + 0) - (length f + big) = omega (arith, length-append w f) in
    is ∙ ap (within 253402300799999) (sym (ap (λ (n : ℕ). n / 10 ^ (length f + big)) (thousand (decimal 0 (w ++ f)) 0) ∙ shift (w ++ f) c (3 + 0) (length f + big) (all_append is_digit w f all all_f) k))

pub raised : (w f : List ℕ) (big e c : ℕ) (s : Option ℕ) → list_all is_digit w ≡ true → list_all is_digit f ≡ true → length f < 18446744073709551616 → 0 < decimal 0 (w ++ f) → e ≡ min big 100000000000000000000
    → c ≡ length w + 3 + e → s ≡ within 253402300799999 (decimal 0 (take c (w ++ f)) * 10 ^ (c - length (w ++ f))) → s ≡ within 253402300799999 (decimal 0 (w ++ f) * 1000 * 10 ^ big / 10 ^ (length f + 0))
raised w f big e c s all all_f short some e_is c_is is =
    let k : c ≡ length (w ++ f) + (3 + e) - (length f + 0) = omega (arith, length-append w f) in
    let x : s ≡ within 253402300799999 (decimal 0 (w ++ f) * 10 ^ (3 + e) / 10 ^ (length f + 0)) = is ∙ ap (within 253402300799999) (sym (shift (w ++ f) c (3 + e) (length f + 0) (all_append is_digit w f all all_f) k)) in
    let t : within 253402300799999 (decimal 0 (w ++ f) * 1000 * 10 ^ big / 10 ^ (length f + 0)) ≡ within 253402300799999 (decimal 0 (w ++ f) * 10 ^ (3 + big) / 10 ^ (length f + 0)) =
    ap (λ (n : ℕ). within 253402300799999 (n / 10 ^ (length f + 0))) (thousand (decimal 0 (w ++ f)) big) in
    elim (cases_lt 100000000000000000000 big) [
      | inl h ↦ x ∙ within_above 253402300799999 (decimal 0 (w ++ f) * 10 ^ (3 + e) / 10 ^ (length f + 0)) (large (decimal 0 (w ++ f)) (3 + e) (length f + 0) some (omega arith))
          ∙ sym (within_above 253402300799999 (decimal 0 (w ++ f) * 10 ^ (3 + big) / 10 ^ (length f + 0)) (large (decimal 0 (w ++ f)) (3 + big) (length f + 0) some (omega arith))) ∙ sym t
      | inr h ↦ (let same : e ≡ big = omega arith in x ∙ ap (λ (n : ℕ). within 253402300799999 (decimal 0 (w ++ f) * 10 ^ (3 + n) / 10 ^ (length f + 0))) same ∙ sym t)
    ]

-- the moment

pub moment_is : (n : Number) (text : List ℕ) → IsNumberIn n text → moment_of text ≡ moment_in n.negative n.int.now n.frac.now n.exp.now
unfolding moment_of
moment_is n text is = rw (is.is, is.negative, is.int, is.frac, is.exp) refl

nothing : (x a b : ℕ) → x ≡ 0 → x * 1000 * a / b ≡ 0
nothing x a b e = ap (λ (n : ℕ). n * 1000 * a / b) e ∙ ap (λ (n : ℕ). n / b) (zero-mul a) ∙ zero-div b

zero_in : (t : Bool) (s m : ℕ) → s ≡ 0 → m ≡ 0 → cond (not (t && ltb 0 s) && leb m 253402300799999) (Some m) None ≡ Some 0
zero_in true s m e k = rw (e, k) refl
zero_in false s m e k = rw k refl

pub moment_zero : (t : Bool) (w f exp : List ℕ) → significand w f ≡ 0 → moment_in t w f exp ≡ Some 0
moment_zero t w f exp e = zero_in t (significand w f) (milliseconds w f exp) e (nothing (significand w f) (10 ^ rises exp) (10 ^ (length f + falls exp)) e)

below_in : (t : Bool) (s m : ℕ) → t ≡ true → 0 < s → cond (not (t && ltb 0 s) && leb m 253402300799999) (Some m) None ≡ None
below_in true s m e h = rw (lt-ltb 0 s h) refl
below_in false s m e h = absurd (false≢true e)

pub moment_below : (t : Bool) (w f exp : List ℕ) → t ≡ true → 0 < significand w f → moment_in t w f exp ≡ None
moment_below t w f exp e h = below_in t (significand w f) (milliseconds w f exp) e h

pub moment_above : (t : Bool) (w f exp : List ℕ) → t ≡ false → moment_in t w f exp ≡ within 253402300799999 (milliseconds w f exp)
moment_above t w f exp e = rw e refl

-- a significand of two parts

pub no_int : (w f : List ℕ) (r : Bool) → r ≡ eqb (decimal 0 w) 0 → r ≡ false → eqb (significand w f) 0 ≡ false
no_int w f r e h = above (significand w f) (let g = grows (decimal 0 w) f in let k : decimal 0 w ≢ 0 = not_zero (decimal 0 w) (sym e ∙ h) in let d = decimal-append 0 w f in omega arith)
  where
    not_zero : (n : ℕ) → eqb n 0 ≡ false → n ≢ 0
    not_zero n h = grind (arith, nat_tests)

    above : (n : ℕ) → 0 < n → eqb n 0 ≡ false
    above n h = grind (arith, nat_tests)

pub no_more : (w f : List ℕ) (r s : Bool) → r ≡ eqb (decimal 0 w) 0 → r ≡ true → s ≡ eqb (decimal 0 f) 0 → s ≡ eqb (significand w f) 0
no_more w f r s e h is = is ∙ ap (λ (n : ℕ). eqb n 0) (sym (decimal-append 0 w f ∙ ap (λ (n : ℕ). decimal n f) (zero_is (decimal 0 w) (sym e ∙ h))))
  where
    zero_is : (n : ℕ) → eqb n 0 ≡ true → n ≡ 0
    zero_is n h = grind (arith, nat_tests)

-- milliseconds of parts

pub with_lowered : (w f exp : List ℕ) (e c : ℕ) (s : Option ℕ) → is_lowered exp ≡ true → list_all is_digit w ≡ true → list_all is_digit f ≡ true → length w < 18446744073709551616
    → e ≡ min (exponent (behind_first exp)) 100000000000000000000 → c ≡ length w + 3 - e
    → s ≡ within 253402300799999 (decimal 0 (take c (w ++ f)) * 10 ^ (c - length (w ++ f))) → s ≡ within 253402300799999 (milliseconds w f exp)
with_lowered w f exp e c s t all all_f short e_is c_is is = rw t (lowered w f (exponent (behind_first exp)) e c s all all_f short e_is c_is is)

pub with_raised : (w f exp : List ℕ) (e c : ℕ) (s : Option ℕ) → is_lowered exp ≡ false → list_all is_digit w ≡ true → list_all is_digit f ≡ true → length f < 18446744073709551616 → 0 < decimal 0 (w ++ f)
    → e ≡ min (exponent (behind_first exp)) 100000000000000000000 → c ≡ length w + 3 + e
    → s ≡ within 253402300799999 (decimal 0 (take c (w ++ f)) * 10 ^ (c - length (w ++ f))) → s ≡ within 253402300799999 (milliseconds w f exp)
with_raised w f exp e c s t all all_f short some e_is c_is is = rw t (raised w f (exponent (behind_first exp)) e c s all all_f short some e_is c_is is)
