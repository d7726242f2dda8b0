use Rattle.std.proofs.Common.{ℕ, ◌-◌, ◌<◌, ◌≤◌, length}
use Rattle.std.specs.Prelude.{slice_index_or}
use Rattle.gl_indexset.specs.declared.row.Row.{Row}
use Rattle.gl_indexset.proofs.sweep.first_from.Given as goal

abbrev pub invariant-loop-low : goal.invariant-loop-low
invariant-loop-low l = record {
  order : l.low ≤ l.high;
  within : l.high ≤ length l.rows.rows;
  before : (k : ℕ) (d : Row) → k < l.low → (slice_index_or l.rows.rows k d).position < l.position;
  behind : (k : ℕ) (d : Row) → l.high ≤ k → k < length l.rows.rows → l.position ≤ (slice_index_or l.rows.rows k d).position;
}

abbrev pub decreases-loop-low : goal.decreases-loop-low
decreases-loop-low l = l.high - l.low
