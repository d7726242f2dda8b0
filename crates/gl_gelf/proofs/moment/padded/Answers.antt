use Rattle.std.proofs.Common.{◌*◌, ◌^◌, arith}
use Rattle.gl_gelf.proofs.Numbers.{pad_step, pad_above}
use Rattle.gl_gelf.proofs.moment.padded.Goals as goal

pub returns-then-n-gt-MAX_MOMENT-clause-value : goal.returns-then-n-gt-MAX_MOMENT-clause-value
returns-then-n-gt-MAX_MOMENT-clause-value c = pad_above c.loop-left.n c.loop-left.left (c.args.number * 10 ^ c.args.zeros) 253402300799999 c.loop-left-test.true c.loop-left.invariant.0 c.if-n-gt-MAX_MOMENT.true

pub loop-left-preserved : goal.loop-left-preserved
loop-left-preserved c = (pad_step c.loop-left.n c.loop-left.left (c.args.number * 10 ^ c.args.zeros) c.loop-left-test.true c.loop-left.invariant.0, c.if-n-gt-MAX_MOMENT.false, omega arith)
