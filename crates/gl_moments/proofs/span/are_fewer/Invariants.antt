-- The rows of those minutes that were passed, and how many may still come, are as many as the limit.
use Rattle.std.proofs.Common.{◌≡◌, ◌+◌, ◌-◌, ◌/◌, ◌≤◌, List}
use Rattle.gl_indexset.specs.declared.row.Row.{Row}
use Rattle.gl_moments.specs.Inside.{AreKept, kept_at}
use Rattle.gl_moments.proofs.Walking.{count_passed}
use Rattle.gl_moments.proofs.span.are_fewer.Given as goal

abbrev pub invariant-loop-minute : goal.invariant-loop-minute
invariant-loop-minute l = (l.from / 60000 ≤ l.low) × ((rows : List Row) → AreKept (kept_at l.minutes) rows → count_passed l.from l.to l.low rows + l.left ≡ l.limit)

abbrev pub decreases-loop-minute : goal.decreases-loop-minute
decreases-loop-minute l = l.to - l.low
