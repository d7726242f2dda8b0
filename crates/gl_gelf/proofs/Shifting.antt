-- The point of a decimal, moved.
use Rattle.std.proofs.Common.{◌≡◌, ℕ, zero, suc, ◌+◌, ◌-◌, ◌*◌, ◌/◌, ◌^◌, ◌≤◌, ◌<◌, Bool, true, List, [], ◌∷◌, ◌++◌, length, take, drop, refl, sym, ap, subst, ◌∙◌, arith, Some, None, inl, inr}
use Rattle.std.specs.List.{list_all}
use Rattle.std.proofs.Math.Nat.{one-le-pow, pow-le-pow_right, mul_assoc, mul-le-mul_right, mul-div_cancel, mul-div-mul_right, div-eq_of_lt, zero-mul}
use Rattle.std.proofs.lemmas.List.{take-append-drop, take_all, length-drop}
use Rattle.std.proofs.lemmas.Nat.{pow-add, div-mul-add}
use Rattle.std.proofs.lemmas.Bool.{and_parts, cases_lt}
use Rattle.gl_base.specs.Bytes.{is_digit}
use Rattle.gl_base.specs.Digits.{decimal}
use Rattle.gl_base.specs.Digits.{within}
use Rattle.gl_gelf.proofs.Numbers.{decimal-append, decimal_behind, decimal_low}

all_drop : (p : ℕ → Bool) (n : ℕ) (xs : List ℕ) → list_all p xs ≡ true → list_all p (drop n xs) ≡ true
all_drop p zero xs h = h
all_drop p (suc n) [] h = refl
all_drop p (suc n) (x ∷ xs) h = all_drop p n xs (and_parts (p x) (list_all p xs) h).1

pub all_take : (p : ℕ → Bool) (n : ℕ) (xs : List ℕ) → list_all p xs ≡ true → list_all p (take n xs) ≡ true
all_take p zero xs h = refl
all_take p (suc n) [] h = refl
all_take p (suc n) (x ∷ xs) h = let q = and_parts (p x) (list_all p xs) h in rw q.0 (all_take p n xs q.1)

pub all_append : (p : ℕ → Bool) (xs ys : List ℕ) → list_all p xs ≡ true → list_all p ys ≡ true → list_all p (xs ++ ys) ≡ true
all_append p [] ys h k = k
all_append p (x ∷ xs) ys h k = let q = and_parts (p x) (list_all p xs) h in rw q.0 (all_append p xs ys q.1 k)

ten : (n : ℕ) → 0 < 10 ^ n
ten n = let h = one-le-pow n 10 (omega arith) in omega arith

-- the digits from a place on are left over
split_at : (c : ℕ) (ds : List ℕ) → decimal 0 ds ≡ decimal 0 (take c ds) * 10 ^ (length ds - c) + decimal 0 (drop c ds)
split_at c ds =
    ap (decimal 0) (sym (take-append-drop c ds)) ∙ decimal-append 0 (take c ds) (drop c ds) ∙ decimal_behind (decimal 0 (take c ds)) (drop c ds)
    ∙ ap (λ (n : ℕ). decimal 0 (take c ds) * 10 ^ n + decimal 0 (drop c ds)) (length-drop c ds)

left_over : (c : ℕ) (ds : List ℕ) → list_all is_digit ds ≡ true → decimal 0 (drop c ds) < 10 ^ (length ds - c)
left_over c ds h = subst (λ (n : ℕ). decimal 0 (drop c ds) < 10 ^ n) (length-drop c ds) (decimal_low (drop c ds) (all_drop is_digit c ds h))

-- behind the last digit
shift_behind : (ds : List ℕ) (c up down : ℕ) → length ds ≤ c → up ≡ down + (c - length ds) → decimal 0 ds * 10 ^ up / 10 ^ down ≡ decimal 0 (take c ds) * 10 ^ (c - length ds)
shift_behind ds c up down h e =
    let p : 10 ^ up ≡ 10 ^ (c - length ds) * 10 ^ down = ap (λ (n : ℕ). 10 ^ n) (let q : up ≡ (c - length ds) + down = omega arith in q) ∙ pow-add 10 (c - length ds) down in
    ap (λ (n : ℕ). decimal 0 ds * n / 10 ^ down) p ∙ ap (λ (n : ℕ). n / 10 ^ down) (sym (mul_assoc (decimal 0 ds) (10 ^ (c - length ds)) (10 ^ down)))
    ∙ mul-div_cancel (decimal 0 ds * 10 ^ (c - length ds)) (ten down) ∙ ap (λ (l : List ℕ). decimal 0 l * 10 ^ (c - length ds)) (sym (take_all c ds h))

-- among the digits
shift_among : (ds : List ℕ) (c up down : ℕ) → list_all is_digit ds ≡ true → c ≤ length ds → down ≡ (length ds - c) + up → decimal 0 ds * 10 ^ up / 10 ^ down ≡ decimal 0 (take c ds)
shift_among ds c up down all h e =
    let p : 10 ^ down ≡ 10 ^ (length ds - c) * 10 ^ up = ap (λ (n : ℕ). 10 ^ n) e ∙ pow-add 10 (length ds - c) up in
    ap (λ (n : ℕ). decimal 0 ds * 10 ^ up / n) p ∙ mul-div-mul_right (decimal 0 ds) (10 ^ (length ds - c)) (ten up)
    ∙ ap (λ (n : ℕ). n / 10 ^ (length ds - c)) (split_at c ds) ∙ div-mul-add (decimal 0 (take c ds)) (10 ^ (length ds - c)) (decimal 0 (drop c ds)) (left_over c ds all)

-- before the first digit
shift_before : (ds : List ℕ) (up down : ℕ) → list_all is_digit ds ≡ true → length ds + up ≤ down → decimal 0 ds * 10 ^ up / 10 ^ down ≡ 0
shift_before ds up down all h =
    let low = decimal_low ds all in
    let a : decimal 0 ds + 1 ≤ 10 ^ length ds = omega arith in
    let m : (decimal 0 ds + 1) * 10 ^ up ≤ 10 ^ length ds * 10 ^ up = mul-le-mul_right (10 ^ up) a in
    let t = ten up in
    let q : 10 ^ length ds * 10 ^ up ≤ 10 ^ down = subst (λ (n : ℕ). n ≤ 10 ^ down) (pow-add 10 (length ds) up) (pow-le-pow_right (let z : 0 < 10 = omega arith in z) h) in
    div-eq_of_lt (let r : decimal 0 ds * 10 ^ up < 10 ^ down = omega arith in r)

none : (n : ℕ) → 0 ≡ decimal 0 [] * n
none n = sym (zero-mul n)

one_more : (n k : ℕ) → k ≡ 0 → n ≡ n * 10 ^ k
one_more n k e = rw e (omega arith)

-- a decimal with its point moved, cut down, is written by the digits before the point
pub shift : (ds : List ℕ) (c up down : ℕ) → list_all is_digit ds ≡ true → c ≡ length ds + up - down → decimal 0 ds * 10 ^ up / 10 ^ down ≡ decimal 0 (take c ds) * 10 ^ (c - length ds)
shift ds c up down all e = elim (cases_lt (length ds + up) down) [
  | inl h ↦ (let z : c ≡ 0 = omega arith in shift_before ds up down all (omega arith) ∙ none (10 ^ (c - length ds)) ∙ ap (λ (n : ℕ). decimal 0 (take n ds) * 10 ^ (c - length ds)) (sym z))
  | inr h ↦ elim (cases_lt (length ds) c) [
    | inl k ↦ shift_behind ds c up down (omega arith) (omega arith)
    | inr k ↦ shift_among ds c up down all k (omega arith) ∙ one_more (decimal 0 (take c ds)) (c - length ds) (omega arith)
  ]
]

-- numbers within a bound

pub within_none : (most a b : ℕ) → within most a ≡ None → a ≤ b → within most b ≡ None
within_none most a b e h = grind arith

pub within_above : (most a : ℕ) → most < a → within most a ≡ None
within_above most a h = grind arith

pub within_some : (most a n : ℕ) → within most a ≡ Some n → a ≡ n
within_some most a n e = grind arith
