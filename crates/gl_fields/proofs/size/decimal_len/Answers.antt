use Rattle.std.proofs.Common.{◌≡◌, ℕ, ◌+◌, ◌/◌, ◌%◌, ◌<◌, ◌≤◌, ◌^◌, [], ◌∷◌, length, ap, ◌∙◌, arith, length-append}
use Rattle.std.specs.Fmt.{decimal}
use Rattle.std.proofs.lemmas.Fmt.{decimal_digit, decimal_step, length-decimal-le}
use Rattle.gl_fields.proofs.size.decimal_len.Goals as goal

most : (n : ℕ) → n < 2 ^ 64 → length (decimal n) ≤ 20
most n fits = length-decimal-le 20 n (omega arith) (omega arith) fits

one_more : (n : ℕ) → 10 ≤ n → n < 2 ^ 64 → length (decimal n) ≡ length (decimal (n / 10)) + 1
one_more n long fits = ap length (decimal_step n long fits) ∙ length-append (decimal (n / 10)) ((48 + n % 10) ∷ [])

pub overflow_add-len : goal.overflow_add-len
overflow_add-len c = omega (arith, most c.args.number (omega arith))

pub loop-rest-preserved : goal.loop-rest-preserved
loop-rest-preserved c = omega (arith, one_more c.loop-rest.rest (omega arith) (omega arith))

pub returns : goal.returns
returns c = record {
  len = omega (arith, ap length (decimal_digit c.loop-rest.rest (omega arith)));
  few = omega (arith, ap length (decimal_digit c.loop-rest.rest (omega arith)), most c.args.number (omega arith));
}
