use Rattle.std.proofs.Common.{rules, sym}
use Rattle.gl_gelf.proofs.Moments.{no_int, no_more}
use Rattle.gl_gelf.proofs.moment.is_nothing.Goals as goal

pub returns-then-not-is_zero : goal.returns-then-not-is_zero
returns-then-not-is_zero c = sym (no_int c.args.int.now c.args.frac.now c.is_zero.result c.is_zero.ensures (search rules))

pub returns : goal.returns
returns c = no_more c.args.int.now c.args.frac.now c.is_zero.result c.is_zero-2.result c.is_zero.ensures (search rules) c.is_zero-2.ensures
