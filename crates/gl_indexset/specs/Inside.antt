-- What contracts see of the fields of a set, and of the sets together.
use Rattle.std.specs.Prelude.{◌-◌}
use Rattle.std.specs.VecDeque.{deque_len, deque_capacity}
use Rattle.gl_indexset.specs.declared.set.IndexSet.TheInside.{Inside as SetInside}
use Rattle.gl_indexset.specs.declared.sets.IndexSets.TheInside.{Inside}
use Rattle.gl_indexset.specs.Kept.{Kept}
use Rattle.gl_indexset.specs.SetKept.{SetKept}

abbrev pub set_kept : SetInside → SetKept
set_kept set = record {
  rule = set.rule;
  number = set.number;
  newest = set.newest;
  closed = set.closed.items;
  spare = deque_capacity set.closed - deque_len set.closed;
}

abbrev pub kept_of : Inside → Kept
kept_of all = record { sets = all.sets.items; rows = all.rows.rows; next = all.next; room = all.rows.spare }
