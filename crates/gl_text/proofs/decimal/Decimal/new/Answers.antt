use Rattle.std.proofs.Common.{ℤ, ◌<◌, ◌^◌, IsUtf8, sym, subst, rules, to_z, of_z, w64}
use Rattle.std.specs.Fmt.{signed_decimal}
use Rattle.std.proofs.lemmas.Str.{IsUtf8-from_ascii}
use Rattle.std.proofs.lemmas.Fmt.{IsAscii-signed}
use lib.Signed.{mag}
use Rattle.gl_text.proofs.decimal.Decimal.new.Goals as goal

pub invariant_of-result : goal.invariant_of-result
invariant_of-result c =
    let number : ℤ = to_z w64 (of_z w64 c.args.number) in
    let small : mag number < 2 ^ 63 = search rules in
    (c.write_decimal-at.ensures.within, subst IsUtf8 (sym c.write_decimal-at.ensures.text) (IsUtf8-from_ascii (signed_decimal number) (IsAscii-signed number small)))
