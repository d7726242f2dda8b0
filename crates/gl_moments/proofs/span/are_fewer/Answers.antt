use Rattle.std.proofs.Common.{true, arith}
use Rattle.gl_moments.specs.Inside.{kept_at}
use Rattle.gl_moments.proofs.Walking.{fewer_by, fewer_on, not_fewer, nothing_gathered}
use Rattle.gl_moments.proofs.span.are_fewer.Goals as goal

pub loop-minute-init : goal.loop-minute-init
loop-minute-init c = (omega arith, λ rows h. omega (arith, nothing_gathered c.args.from c.args.to rows (λ _. true)))

pub loop-minute-smaller : goal.loop-minute-smaller
loop-minute-smaller c = omega (arith, c.in-Some.ensures.first.above, c.in-Some.ensures.begins)

pub loop-minute-preserved : goal.loop-minute-preserved
loop-minute-preserved c = (
  omega (arith, c.loop-minute.invariant.0, c.in-Some.ensures.first.above),
  λ rows h.
      fewer_on (kept_at c.args.minutes.now) c.args.from c.args.to c.loop-minute.low c.in-Some.minute c.loop-minute.left c.args.limit c.in-Some.positions.now rows h c.loop-minute.invariant.0 c.in-Some.ensures
      (omega arith) (c.loop-minute.invariant.1 rows h),
)

pub returns : goal.returns
returns c = λ rows h.
    fewer_by (kept_at c.args.minutes.now) c.args.from c.args.to c.loop-minute.low c.loop-minute.left c.args.limit rows h c.in_default.ensures (c.loop-minute.invariant.1 rows h)

pub returns-then-left-positions : goal.returns-then-left-positions
returns-then-left-positions c = λ rows h.
    not_fewer (kept_at c.args.minutes.now) c.args.from c.args.to c.loop-minute.low c.in-Some.minute c.loop-minute.left c.args.limit c.in-Some.positions.now rows h c.loop-minute.invariant.0 c.in-Some.ensures
    (omega arith) (c.loop-minute.invariant.1 rows h)
