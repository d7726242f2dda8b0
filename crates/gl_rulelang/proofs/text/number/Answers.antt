use Rattle.std.proofs.Common.{◌<◌, ◌^◌, length}
use Rattle.std.specs.Prelude.{pos}
use Rattle.std.specs.Int.{w64}
use Rattle.std.proofs.lemmas.Str.Parse.{parse_signed_digits}
use Rattle.gl_base.specs.Digits.{decimal}
use Rattle.gl_rulelang.proofs.Numbers.{digits_model, read_number}
use Rattle.gl_rulelang.proofs.text.number.Goals as goal

pub returns : goal.returns
returns c =
    let ds = c.args.digits.now in
    rw c.ok.ensures.value (read_number c.parse.result (0 < length ds) (decimal 0 ds < 2 ^ 63) (pos (decimal 0 ds)) c.requires.some
    (parse_signed_digits digits_model w64 ds c.parse.result c.parse.ensures.value.0 c.requires.digits))
