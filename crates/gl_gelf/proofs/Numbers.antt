-- Numbers that digits write.
use Rattle.std.proofs.Common.{◌≡◌, ℕ, suc, ◌+◌, ◌-◌, ◌*◌, ◌^◌, ◌≤◌, ◌<◌, Bool, true, false, cond, List, [], ◌∷◌, ◌++◌, length, take, drop, min, refl, sym, ap, ◌∙◌, arith, leb, eqb, get_or, None, inl, inr}
use Rattle.std.specs.List.{list_all}
use Rattle.std.proofs.Math.Nat.{pow-suc, one-le-pow, pow-succ', mul_comm, mul_assoc, mul-le-mul_left}
use Rattle.std.proofs.lemmas.Bool.{and_parts, cases_lt, leb-true, leb-false, le-leb, lt-leb}
use Rattle.std.proofs.lemmas.List.{take_all}
use Rattle.std.proofs.lemmas.Bool.Decides.{nat_tests}
use Rattle.gl_base.specs.Bytes.{is_digit}
use Rattle.gl_base.specs.Digits.{decimal}
use Rattle.gl_base.specs.Digits.{digits_within, within}

-- a number doesn't fall as digits are put behind it
pub grows : (n : ℕ) (ds : List ℕ) → n ≤ decimal n ds
grows n [] = omega arith
grows n (d ∷ ds) = let h = grows (n * 10 + (d - 48)) ds in omega arith

cap_low : (m cap : ℕ) (ds : List ℕ) → m ≤ cap → min (decimal (min m cap) ds) cap ≡ min (decimal m ds) cap
cap_low m cap ds h = let e : min m cap ≡ m = omega arith in rw e refl

cap_high : (m cap : ℕ) (ds : List ℕ) → cap ≤ m → min (decimal (min m cap) ds) cap ≡ min (decimal m ds) cap
cap_high m cap ds h =
    let e : min m cap ≡ cap = omega arith in
    let a = grows cap ds in
    let b = grows m ds in
    rw e (omega arith)

-- a number that is cut at a bound on the way is that cut at its end
pub capped_more : (m cap : ℕ) (ds : List ℕ) → min (decimal (min m cap) ds) cap ≡ min (decimal m ds) cap
capped_more m cap ds = elim (cases_lt m cap) [ inl h ↦ let h2 : m ≤ cap = omega arith in cap_low m cap ds h2 | inr h ↦ cap_high m cap ds h ]

pub decimal-append : (n : ℕ) (xs ys : List ℕ) → decimal n (xs ++ ys) ≡ decimal (decimal n xs) ys
decimal-append n [] ys = refl
decimal-append n (x ∷ xs) ys = decimal-append (n * 10 + (x - 48)) xs ys

digit_below : (d : ℕ) → is_digit d ≡ true → d - 48 < 10
digit_below d h = grind arith

-- what is read before counts as many tens as there are digits
step : (n d p r x : ℕ) → x ≡ (n * 10 + d) * p + r → x ≡ n * (p * 10) + (d * p + r)
step n d p r x h = grind arith

pub decimal_behind : (n : ℕ) (ds : List ℕ) → decimal n ds ≡ n * 10 ^ length ds + decimal 0 ds
decimal_behind n [] = omega arith
decimal_behind n (d ∷ ds) =
    let a = decimal_behind (n * 10 + (d - 48)) ds in
    let b = decimal_behind (0 * 10 + (d - 48)) ds in
    let p : 10 ^ length (d ∷ ds) ≡ 10 ^ length ds * 10 = pow-suc 10 (length ds) in
    let a2 = step n (d - 48) (10 ^ length ds) (decimal 0 ds) (decimal (n * 10 + (d - 48)) ds) a in
    let b2 = step 0 (d - 48) (10 ^ length ds) (decimal 0 ds) (decimal (0 * 10 + (d - 48)) ds) b in
    rw p (omega arith)

low_step : (d p r x : ℕ) → d < 10 → r < p → x ≡ d * p + r → x < p * 10
low_step d p r x h k e = let m = mul-le-mul_left p (let q : d ≤ 9 = omega arith in q) in omega (arith, mul_comm d p)

-- digits write less than the power of ten of their count
pub decimal_low : (ds : List ℕ) → list_all is_digit ds ≡ true → decimal 0 ds < 10 ^ length ds
decimal_low [] h = omega arith
decimal_low (d ∷ ds) h =
    let q = and_parts (is_digit d) (list_all is_digit ds) h in
    let k = decimal_low ds q.1 in
    let p : 10 ^ length (d ∷ ds) ≡ 10 ^ length ds * 10 = pow-suc 10 (length ds) in
    rw p (low_step (0 * 10 + (d - 48)) (10 ^ length ds) (decimal 0 ds) (decimal (0 * 10 + (d - 48)) ds) (let b = digit_below d q.0 in omega arith) k (decimal_behind (0 * 10 + (d - 48)) ds))

pub front_shows : (d : ℕ) (ds : List ℕ) → 48 < d → 0 < decimal 0 (d ∷ ds)
front_shows d ds h = let g = grows (0 * 10 + (d - 48)) ds in omega arith

within_step : (most m : ℕ) (ds : List ℕ) (t : Bool) → t ≡ leb m most → list_all is_digit ds ≡ true → (m ≤ most → list_all is_digit ds ≡ true → digits_within most m ds ≡ within most (decimal m ds))
    → cond t (digits_within most m ds) None ≡ within most (decimal m ds)
within_step most m ds true e all go = go (leb-true m most (sym e)) all
within_step most m ds false e all go = let g = grows m ds in let h : most < m = leb-false m most (sym e) in let k : leb (decimal m ds) most ≡ false = lt-leb (decimal m ds) most (let r : most < decimal m ds = omega arith in r) in rw k refl

pub all_within : (most n : ℕ) (ds : List ℕ) → n ≤ most → list_all is_digit ds ≡ true → digits_within most n ds ≡ within most (decimal n ds)
unfolding digits_within
all_within most n [] h all = rw (le-leb n most h) refl
all_within most n (d ∷ ds) h all =
    let q = and_parts (is_digit d) (list_all is_digit ds) all in
    rw q.0 (within_step most (n * 10 + (d - 48)) ds (leb (n * 10 + (d - 48)) most) refl q.1 (all_within most (n * 10 + (d - 48)) ds))

pub zero_test : (n : ℕ) → 0 < n → false ≡ eqb n 0
zero_test n h = grind (arith, nat_tests)

-- the digits behind the first one
pub capped_step : (n m cap : ℕ) (rest : List ℕ) → 1 ≤ length rest → m ≡ min (n * 10 + (get_or rest 0 0 - 48)) cap → min (decimal m (take (length rest - 1) (drop 1 rest))) cap ≡ min (decimal n rest) cap
capped_step n m cap [] h e = absurd (omega arith)
capped_step n m cap (d ∷ ds) h e =
    let t : take (length (d ∷ ds) - 1) ds ≡ ds = take_all (length (d ∷ ds) - 1) ds (omega arith) in
    rw (t, e) (capped_more (n * 10 + (d - 48)) cap ds)

-- zeros put behind a number

pad_back : (n l k : ℕ) → l ≡ suc k → n * 10 ^ l ≡ n * 10 * 10 ^ k
pad_back n l k e = ap (λ (j : ℕ). n * 10 ^ j) e ∙ ap (λ (j : ℕ). n * j) (pow-succ' 10 k) ∙ sym (mul_assoc n 10 (10 ^ k))

pub pad_step : (n l x : ℕ) → 0 < l → n * 10 ^ l ≡ x → n * 10 * 10 ^ (l - 1) ≡ x
pad_step n l x h e = sym (pad_back n l (l - 1) (omega arith)) ∙ e

pub pad_above : (n l x most : ℕ) → 0 < l → n * 10 ^ l ≡ x → most < n * 10 → None ≡ within most x
pad_above n l x most h e high =
    let p = one-le-pow (l - 1) 10 (omega arith) in
    let m : n * 10 * 1 ≤ n * 10 * 10 ^ (l - 1) = mul-le-mul_left (n * 10) p in
    let b = pad_step n l x h e in
    let k : leb x most ≡ false = lt-leb x most (let r : most < x = omega arith in r) in
    rw k refl

pub some_test : (n : ℕ) → eqb n 0 ≡ false → 0 < n
some_test n h = grind (arith, nat_tests)

pub behind_all : (p : ℕ → Bool) (rest : List ℕ) → 1 ≤ length rest → list_all p rest ≡ true → list_all p (take (length rest - 1) (drop 1 rest)) ≡ true
behind_all p [] h all = absurd (omega arith)
behind_all p (d ∷ ds) h all =
    let t : take (length (d ∷ ds) - 1) ds ≡ ds = take_all (length (d ∷ ds) - 1) ds (omega arith) in
    rw t (and_parts (p d) (list_all p ds) all).1
