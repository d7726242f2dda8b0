use Rattle.std.proofs.Common.{ℕ, ◌+◌, ◌*◌, ◌-◌, get_or, ap, sym, ◌∙◌, arith}
use Rattle.gl_http.proofs.Decimals.{below, digit_read}
use Rattle.gl_http.proofs.fields.number.Goals as goal

pub overflow_mul-n : goal.overflow_mul-n
overflow_mul-n c =
    let short = below c.args.digits.now c.loop-d.d-index c.requires.digits c.requires.few (omega arith) in
    let value = c.loop-d.invariant in
    omega arith

pub overflow_add-n : goal.overflow_add-n
overflow_add-n c =
    let short = below c.args.digits.now c.loop-d.d-index c.requires.digits c.requires.few (omega arith) in
    let value = c.loop-d.invariant in
    let byte = c.type_inv.digits c.loop-d.d-index in
    omega (arith, byte)

pub loop-d-preserved : goal.loop-d-preserved
loop-d-preserved c =
    ap (λ (n : ℕ). n * 10 + (get_or c.args.digits.now c.loop-d.d-index 0 - 48)) c.loop-d.invariant
    ∙ sym (digit_read 0 c.args.digits.now c.loop-d.d-index (omega arith))
