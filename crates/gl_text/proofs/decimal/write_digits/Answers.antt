use Rattle.std.proofs.Common.{◌+◌, ◌%◌, arith}
use Rattle.gl_text.proofs.Decimals.{room, more, last, same_len}
use Rattle.gl_text.proofs.decimal.write_digits.Goals as goal

pub overflow_sub-at : goal.overflow_sub-at
overflow_sub-at c =
    let v = c.loop-rest.invariant in
    omega (arith, room c.args.number c.loop-rest.at c.loop-rest.rest c.loop-rest.digits v.text v.within v.len c.requires.small v.less)

pub loop-rest-preserved : goal.loop-rest-preserved
loop-rest-preserved c =
    let v = c.loop-rest.invariant in
    record {
      text = more c.args.number c.loop-rest.at c.loop-rest.rest c.loop-rest.digits v.text v.within v.len c.requires.small v.less c.loop-rest-test.true;
      within = omega (arith, v.within);
      less = omega (arith, v.less);
      len = same_len c.args.number c.loop-rest.at c.loop-rest.rest c.loop-rest.digits v.text v.within v.len c.requires.small v.less (48 + c.loop-rest.rest % 10);
    }

pub overflow_sub-at-2 : goal.overflow_sub-at-2
overflow_sub-at-2 c =
    let v = c.loop-rest.invariant in
    omega (arith, room c.args.number c.loop-rest.at c.loop-rest.rest c.loop-rest.digits v.text v.within v.len c.requires.small v.less)

pub returns-clause-digits : goal.returns-clause-digits
returns-clause-digits c =
    let v = c.loop-rest.invariant in
    last c.args.number c.loop-rest.at c.loop-rest.rest c.loop-rest.digits v.text v.within v.len c.requires.small v.less c.loop-rest-test.false

pub returns-clause-left : goal.returns-clause-left
returns-clause-left c =
    let v = c.loop-rest.invariant in
    omega (arith, room c.args.number c.loop-rest.at c.loop-rest.rest c.loop-rest.digits v.text v.within v.len c.requires.small v.less)
