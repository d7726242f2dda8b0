use Rattle.gl_gelf.proofs.Moments.{none_first, none_then, read_both}
use Rattle.gl_gelf.proofs.moment.shifted.Goals as goal

pub returns-in_err-whole-clause-value : goal.returns-in_err-whole-clause-value
returns-in_err-whole-clause-value c = none_first 253402300799999 c.args.count c.args.int.now c.args.frac.now c.front.result.now c.digits_within.result c.from_residual.result c.requires.int c.front.ensures c.digits_within.ensures.value c.in_err-whole.was c.from_residual.ensures

pub returns-in_err-all-clause-value : goal.returns-in_err-all-clause-value
returns-in_err-all-clause-value c = none_then 253402300799999 c.args.count c.in_ok-whole.whole c.saturating_sub-behind.result c.args.int.now c.args.frac.now c.front.result.now c.front-2.result.now c.digits_within.result c.digits_within-2.result c.from_residual-in_err-all.result
    c.requires.int c.requires.frac c.front.ensures c.digits_within.ensures.value c.in_ok-whole.was c.in_ok-whole.ensures.few c.saturating_sub-behind.ensures c.front-2.ensures c.digits_within-2.ensures.value c.in_err-all.was c.from_residual-in_err-all.ensures

pub returns-clause-value : goal.returns-clause-value
returns-clause-value c = read_both 253402300799999 c.args.count c.in_ok-whole.whole c.saturating_sub-behind.result c.in_ok-all.all c.saturating_sub.result c.args.int.now c.args.frac.now c.front.result.now c.front-2.result.now c.digits_within.result c.digits_within-2.result c.padded.result
    c.requires.int c.requires.frac c.front.ensures c.digits_within.ensures.value c.in_ok-whole.was c.in_ok-whole.ensures.few c.saturating_sub-behind.ensures c.front-2.ensures c.digits_within-2.ensures.value c.in_ok-all.was c.saturating_sub.ensures c.padded.ensures.value
