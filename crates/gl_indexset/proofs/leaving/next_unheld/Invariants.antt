use Rattle.std.proofs.Common.{◌≡◌, ℕ, ◌-◌, ◌<◌, ◌≤◌, true, length, map}
use Rattle.std.specs.Prelude.{slice_index_or}
use Rattle.gl_indexset.specs.declared.row.Row.{Row}
use Rattle.gl_indexset.specs.SetKept.{goes, is_held}
use Rattle.gl_indexset.proofs.leaving.next_unheld.Given as goal

abbrev pub invariant-loop-n : goal.invariant-loop-n
invariant-loop-n l = record {
  order : l.from ≤ l.n;
  stay : (k : ℕ) (d : Row) → l.from ≤ k → k < l.n → k < length l.rows.rows → is_held (map (goes l.row) l.sets) (slice_index_or l.rows.rows k d) ≡ true;
}

abbrev pub decreases-loop-n : goal.decreases-loop-n
decreases-loop-n l = length l.rows.rows - l.n
