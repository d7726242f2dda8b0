use Rattle.std.proofs.Common.{sym, ◌∙◌}
use Rattle.gl_gelf.specs.Decimals.{significand}
use Rattle.gl_gelf.proofs.Numbers.{some_test}
use Rattle.std.proofs.lemmas.Bool.{eqb-true}
use Rattle.gl_gelf.proofs.Moments.{moment_is, moment_zero, moment_below, moment_above}
use Rattle.gl_gelf.proofs.moment.moment_of.Goals as goal

pub returns-then-is_nothing-clause-value : goal.returns-then-is_nothing-clause-value
returns-then-is_nothing-clause-value c =
    sym (moment_is c.in_ok-number.number c.args.text.now c.in_ok-number.ensures
    ∙ moment_zero c.in_ok-number.number.negative c.in_ok-number.number.int.now c.in_ok-number.number.frac.now c.in_ok-number.number.exp.now
    (eqb-true (significand c.in_ok-number.number.int.now c.in_ok-number.number.frac.now) 0 (sym c.is_nothing.ensures ∙ c.if-is_nothing.true)))

pub returns-then-number-clause-value : goal.returns-then-number-clause-value
returns-then-number-clause-value c =
    sym (moment_is c.in_ok-number.number c.args.text.now c.in_ok-number.ensures
    ∙ moment_below c.in_ok-number.number.negative c.in_ok-number.number.int.now c.in_ok-number.number.frac.now c.in_ok-number.number.exp.now c.if-number.true
    (some_test (significand c.in_ok-number.number.int.now c.in_ok-number.number.frac.now) (sym c.is_nothing.ensures ∙ c.if-is_nothing.false)))

pub milliseconds-requires-clause-some : goal.milliseconds-requires-clause-some
milliseconds-requires-clause-some c = some_test (significand c.in_ok-number.number.int.now c.in_ok-number.number.frac.now) (sym c.is_nothing.ensures ∙ c.if-is_nothing.false)

pub returns-clause-value : goal.returns-clause-value
returns-clause-value c =
    c.milliseconds.ensures.value
    ∙ sym (moment_is c.in_ok-number.number c.args.text.now c.in_ok-number.ensures
    ∙ moment_above c.in_ok-number.number.negative c.in_ok-number.number.int.now c.in_ok-number.number.frac.now c.in_ok-number.number.exp.now c.if-number.false)
