use Rattle.std.proofs.Common.{◌+◌, ◌-◌, ◌/◌, arith}
use Rattle.gl_indexset.proofs.Sweeping.{above_here, below_here}
use Rattle.gl_indexset.proofs.sweep.first_from.Goals as goal

pub loop-low-preserved-then-get-position : goal.loop-low-preserved-then-get-position
loop-low-preserved-then-get-position c = record {
  order = omega arith;
  within = c.loop-low.invariant.within;
  before = below_here c.args.rows.now.rows (c.loop-low.low + (c.loop-low.high - c.loop-low.low) / 2) c.get.result.now c.requires c.get.ensures (omega (arith, c.loop-low.invariant.within)) c.args.position c.if-get-position.true;
  behind = c.loop-low.invariant.behind;
}

pub loop-low-preserved : goal.loop-low-preserved
loop-low-preserved c = record {
  order = omega arith;
  within = omega (arith, c.loop-low.invariant.within);
  before = c.loop-low.invariant.before;
  behind = above_here c.args.rows.now.rows (c.loop-low.low + (c.loop-low.high - c.loop-low.low) / 2) c.get.result.now c.requires c.get.ensures (omega (arith, c.loop-low.invariant.within)) c.args.position (omega (arith, c.if-get-position.false));
}
