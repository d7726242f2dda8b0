-- What was gathered are the positions of the rows of those minutes that were passed.
use Rattle.std.proofs.Common.{◌≡◌, ℕ, ◌-◌, ◌/◌, ◌≤◌, Bool, List}
use Rattle.std.specs.List.{count_by}
use Rattle.gl_indexset.specs.declared.row.Row.{Row}
use Rattle.gl_moments.specs.Inside.{AreKept, kept_at}
use Rattle.gl_moments.proofs.Counting.{counted}
use Rattle.gl_moments.proofs.Walking.{is_passed}
use Rattle.gl_moments.proofs.span.gather.Given as goal

abbrev pub invariant-loop-minute : goal.invariant-loop-minute
invariant-loop-minute l =
    (l.from / 60000 ≤ l.low)
    × ((rows : List Row) (test : ℕ → Bool) → AreKept (kept_at l.minutes) rows → count_by test l.found.items ≡ counted test (is_passed l.from l.to l.low) rows)

abbrev pub decreases-loop-minute : goal.decreases-loop-minute
decreases-loop-minute l = l.to - l.low
