use Rattle.std.proofs.Common.{◌≤◌, take}
use Rattle.std.specs.List.{All}
use Rattle.gl_indexset.specs.SetKept.{SetKept, AreRoomier}
use Rattle.gl_indexset.proofs.sets.make_room.Given as goal

abbrev pub invariant-loop-at : goal.invariant-loop-at
invariant-loop-at l = record {
  roomier : AreRoomier l.fn.sets.items l.sets.items;
  done : All (λ (set : SetKept). l.additional ≤ set.spare) (take l.at l.sets.items);
}
