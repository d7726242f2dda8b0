-- Numbers of decimal digits, as `parse` reads them.
use Rattle.std.proofs.Common.{◌≡◌, ℕ, suc, ◌+◌, Bool, true, false, cond, List, length, Result, Ok, Err, refl, arith}
use Rattle.std.specs.Prelude.{ℤ}
use Rattle.std.specs.List.{prefix_len}
use Rattle.std.specs.Option.{SomeIff}
use Rattle.std.specs.Result.{OkIff, result_ok}
use Rattle.std.proofs.lemmas.Str.Parse.{IsDigitsTest, IsNumeralModel, numerals_by_fold}
use Rattle.std.specs.Char.{is_ascii_digit}
use Rattle.gl_base.specs.Digits.{decimal}

abbrev pub AreDigits : List ℕ → Type 0
AreDigits ds = prefix_len is_ascii_digit ds ≡ length ds

digit_parts : (b : Bool) (c : ℕ) (cs : List ℕ) → cond b (1 + prefix_len is_ascii_digit cs) 0 ≡ suc (length cs) → (b ≡ true) × AreDigits cs
digit_parts true c cs h = (refl, omega arith)
digit_parts false c cs h = absurd (omega arith)

tests : IsDigitsTest AreDigits
tests = record {
  empty = refl;
  parts = λ c cs h. let p = digit_parts (is_ascii_digit c) c cs h in (grind (arith, p.0), p.1);
  more = λ c cs h p. grind arith;
}

pub digits_model : IsNumeralModel AreDigits (decimal 0)
digits_model = numerals_by_fold AreDigits tests decimal (record { empty = λ n. refl; more = λ n c cs h. refl })

pub read_number : {E : Type 0} (r : Result ℤ E) (P Q : Type 0) (v : ℤ) → P → OkIff r (P × Q) v → SomeIff (result_ok r) Q v
read_number (Ok x) P Q v p h = (h.0.1, h.1)
read_number (Err e) P Q v p h = λ q. h (p, q)
