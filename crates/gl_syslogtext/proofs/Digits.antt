-- The number that a few digits write, and digits that are a part of digits.
use Rattle.std.proofs.Common.{◌≡◌, ℕ, zero, suc, ◌+◌, ◌-◌, ◌*◌, ◌^◌, ◌<◌, ◌≤◌, true, List, [], ◌∷◌, ◌++◌, length, take, drop, sym, ap, ◌∙◌, arith}
use Rattle.std.specs.List.{list_all}
use Rattle.std.proofs.lemmas.Bool.{and_parts as and_both}
use Rattle.std.proofs.lemmas.List.{take-append-drop}
use Rattle.std.proofs.lemmas.List.Folds.{list_all-append}
use Rattle.std.proofs.Math.Nat.{mul-le-mul_left}
use Rattle.std.specs.Char.{is_ascii_digit}
use Rattle.gl_base.specs.Digits.{decimal}

pow_some : (k : ℕ) → 1 ≤ 10 ^ k
pow_some zero = omega arith
pow_some (suc k) =
    let before = pow_some k in
    let pow : 10 ^ suc k ≡ 10 * 10 ^ k = omega arith in
    rw pow (omega (arith, before))

pub decimal_short : (k n : ℕ) (ds : List ℕ) → list_all is_ascii_digit ds ≡ true → length ds ≤ k → decimal n ds < (n + 1) * 10 ^ k
decimal_short k n [] all few =
    let one : 1 ≤ 10 ^ k = pow_some k in
    omega (arith, mul-le-mul_left (n + 1) one)
decimal_short zero n (d ∷ ds) all few = absurd (omega arith)
decimal_short (suc k) n (d ∷ ds) all few =
    let both = and_both (is_ascii_digit d) (list_all is_ascii_digit ds) all in
    let small : d - 48 ≤ 9 = grind arith in
    let rest = decimal_short k (n * 10 + (d - 48)) ds both.1 (omega arith) in
    let more : n * 10 + (d - 48) + 1 ≤ 10 * (n + 1) = omega arith in
    let up : 10 ^ k * (n * 10 + (d - 48) + 1) ≤ 10 ^ k * (10 * (n + 1)) = mul-le-mul_left (10 ^ k) more in
    let pow : 10 ^ suc k ≡ 10 * 10 ^ k = omega arith in
    rw pow (omega (arith, rest, up))

pub digits_take : (ds : List ℕ) (n : ℕ) → list_all is_ascii_digit ds ≡ true → list_all is_ascii_digit (take n ds) ≡ true
digits_take ds n all =
    let whole : list_all is_ascii_digit (take n ds ++ drop n ds) ≡ true = ap (list_all is_ascii_digit) (take-append-drop n ds) ∙ all in
    let both = and_both (list_all is_ascii_digit (take n ds)) (list_all is_ascii_digit (drop n ds)) (sym (list_all-append is_ascii_digit (take n ds) (drop n ds)) ∙ whole) in
    both.0
