-- The rows before are stored, and those that come are ready.
use Rattle.std.proofs.Common.{◌≡◌, ℕ, ◌<◌, ◌≤◌, List, length}
use Rattle.std.specs.List.{All}
use Rattle.std.specs.Vec.Iter.{into_iter_items, into_iter_len}
use Rattle.gl_fields.specs.declared.set_rule.SetRule.{SetRule}
use Rattle.gl_indexset.specs.declared.row.Row.{Row}
use Rattle.gl_postings.specs.Indexed.{IsReady, stored}
use Rattle.gl_postings.proofs.settling.settle_all.Given as goal

abbrev pub invariant-loop-row : goal.invariant-loop-row
invariant-loop-row l = record {
  len : into_iter_len l.rows ≡ length (into_iter_items l.rows);
  ready : (rules : List SetRule) (all : List Row) → IsReady l.initial.sets l.initial.words rules all l.fn.more
      → (before : List Row) × (stored (into_iter_items l.rows) before ≡ stored l.fn.more all) × IsReady l.sets l.words rules before (into_iter_items l.rows);
  next : (limit : ℕ) → l.initial.sets.next ≤ limit → All (λ (row : Row). row.position < limit) l.fn.more → (l.sets.next ≤ limit) × All (λ (row : Row). row.position < limit) (into_iter_items l.rows);
}

abbrev pub decreases-loop-row : goal.decreases-loop-row
decreases-loop-row l = into_iter_len l.rows
