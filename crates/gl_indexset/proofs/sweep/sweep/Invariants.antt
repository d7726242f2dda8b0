use Rattle.std.proofs.Common.{◌≡◌, ◌≤◌, filter, take, drop}
use Rattle.gl_indexset.specs.SetKept.{is_held}
use Rattle.gl_indexset.proofs.sweep.sweep.Given as goal

abbrev pub invariant-loop-n : goal.invariant-loop-n
invariant-loop-n l = record {
  order : l.kept ≤ l.n;
  front : take l.kept l.rows.rows ≡ filter (is_held l.sets) (take l.n l.fn.rows.rows);
  rest : drop l.kept l.rows.rows ≡ drop l.n l.fn.rows.rows;
  spare : l.fn.rows.spare ≤ l.rows.spare;
}
