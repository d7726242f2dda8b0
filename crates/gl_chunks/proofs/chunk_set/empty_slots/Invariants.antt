use Rattle.std.proofs.Common.{◌≡◌, ◌≤◌, ◌-◌, None, replicate}
use Rattle.gl_chunks.proofs.chunk_set.empty_slots.Given as goal

abbrev pub invariant-loop-i : goal.invariant-loop-i
invariant-loop-i l = record {
  slots : l.slots.items ≡ replicate l.i None;
  within : l.i ≤ l.count;
}

abbrev pub decreases-loop-i : goal.decreases-loop-i
decreases-loop-i l = l.count - l.i
