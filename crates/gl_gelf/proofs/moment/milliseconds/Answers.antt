use Rattle.std.proofs.Common.{◌+◌, length, refl, sym, ap, ◌∙◌, arith}
use Rattle.gl_base.specs.Bytes.{next_is}
use Rattle.gl_gelf.proofs.Moments.{with_lowered, with_raised}
use Rattle.gl_gelf.proofs.moment.milliseconds.Goals as goal

pub returns-then-next_is-clause-value : goal.returns-then-next_is-clause-value
returns-then-next_is-clause-value c =
    with_lowered c.args.int.now c.args.frac.now c.args.exp.now c.exponent-exponent.result c.saturating_sub.result c.shifted.result (ap (next_is 45) (sym c.behind_first.ensures) ∙ sym c.next_is.ensures ∙ c.if-next_is.true)
    c.requires.int c.requires.frac (omega arith) c.exponent-exponent.ensures c.saturating_sub.ensures c.shifted.ensures.value

pub returns-clause-value : goal.returns-clause-value
returns-clause-value c =
    with_raised c.args.int.now c.args.frac.now c.args.exp.now c.exponent-exponent.result (length c.args.int.now + 3 + c.exponent-exponent.result) c.shifted-2.result (ap (next_is 45) (sym c.behind_first.ensures) ∙ sym c.next_is.ensures ∙ c.if-next_is.false)
    c.requires.int c.requires.frac (omega arith) c.requires.some c.exponent-exponent.ensures refl c.shifted-2.ensures.value
