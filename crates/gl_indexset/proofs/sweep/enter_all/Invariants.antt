use Rattle.std.proofs.Common.{◌≡◌, ◌≤◌, ◌++◌, map, take, drop, filter}
use Rattle.gl_indexset.specs.SetKept.{is_held, goes}
use Rattle.gl_indexset.specs.Rising.{AreRising}
use Rattle.gl_indexset.proofs.sweep.enter_all.Given as goal

abbrev pub invariant-loop-at : goal.invariant-loop-at
invariant-loop-at l = record {
  sets : l.sets.items ≡ map (goes l.row) (take l.at l.fn.sets.items) ++ drop l.at l.fn.sets.items;
  rows : l.rows.rows ≡ filter (is_held l.sets.items) l.fn.rows.rows;
  rising : AreRising l.rows.rows;
  spare : l.fn.rows.spare ≤ l.rows.spare;
}
