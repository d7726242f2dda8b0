use Rattle.std.proofs.Common.{take, arith}
use Rattle.gl_syslogtext.proofs.Digits.{decimal_short, digits_take}
use Rattle.std.proofs.lemmas.List.{length-take}
use Rattle.gl_syslogtext.proofs.sections.number.Goals as goal

pub overflow_mul-n : goal.overflow_mul-n
overflow_mul-n c =
    let i = c.loop-d.d-index in
    let short = decimal_short 3 0 (take i c.args.digits.now) (digits_take c.args.digits.now i c.requires.digits) (omega (arith, length-take i c.args.digits.now, c.requires.few)) in
    let value = c.loop-d.invariant in
    omega arith
