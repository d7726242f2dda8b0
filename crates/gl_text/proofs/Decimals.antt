-- The digits of a number, written from the last one on.
use Rattle.std.proofs.Common.{◌≡◌, ℕ, ◌+◌, ◌-◌, ◌/◌, ◌%◌, ◌^◌, ◌<◌, ◌≤◌, List, [], ◌∷◌, ◌++◌, length, drop, set, sym, ap, ◌∙◌, arith, append_assoc, length-append, ◌⊎◌, inl, inr}
use Rattle.std.proofs.lemmas.List.{drop-set, length-drop, length-set}
use Rattle.std.specs.Fmt.{decimal}
use Rattle.std.proofs.lemmas.Fmt.{decimal_digit, decimal_step, length-decimal-le}

at_least_one : (n : ℕ) → n < 2 ^ 64 → 1 ≤ length (decimal n)
at_least_one n fits = pick n fits (small n)
  where
    small : (n : ℕ) → (n < 10) ⊎ (10 ≤ n)
    small n = grind arith

    pick : (n : ℕ) → n < 2 ^ 64 → (n < 10) ⊎ (10 ≤ n) → 1 ≤ length (decimal n)
    pick n fits (inl few) = omega (arith, ap length (decimal_digit n few))
    pick n fits (inr many) = omega (arith, ap length (decimal_step n many fits), length-append (decimal (n / 10)) ((48 + n % 10) ∷ []))

module _ (number at rest : ℕ) (digits : List ℕ) (text : decimal rest ++ drop at digits ≡ decimal number) (within : at ≤ 20) (len : length digits ≡ 20) (small : number ≤ 2 ^ 63) (less : rest ≤ 2 ^ 63) where
  pub room : 2 ≤ at
  room = omega (arith, ap length text, length-append (decimal rest) (drop at digits), length-drop at digits, at_least_one rest (omega arith), length-decimal-le 19 number (omega arith) (omega arith) (omega arith))

  put : (d : ℕ) → drop (at - 1) (set digits (at - 1) d) ≡ d ∷ drop at digits
  put d = drop-set digits (at - 1) d (omega (arith, room)) ∙ ap (λ n. d ∷ drop n digits) (let e : at - 1 + 1 ≡ at = omega (arith, room) in e)

  pub more : 10 ≤ rest → decimal (rest / 10) ++ drop (at - 1) (set digits (at - 1) (48 + rest % 10)) ≡ decimal number
  more many =
      ap (λ t. decimal (rest / 10) ++ t) (put (48 + rest % 10))
      ∙ sym (append_assoc (decimal (rest / 10)) ((48 + rest % 10) ∷ []) (drop at digits))
      ∙ ap (λ t. t ++ drop at digits) (sym (decimal_step rest many (omega arith)))
      ∙ text

  pub last : rest < 10 → drop (at - 1) (set digits (at - 1) (48 + rest)) ≡ decimal number
  last few = put (48 + rest) ∙ ap (λ t. t ++ drop at digits) (sym (decimal_digit rest few)) ∙ text

  pub same_len : (d : ℕ) → length (set digits (at - 1) d) ≡ 20
  same_len d = length-set digits (at - 1) d ∙ len
