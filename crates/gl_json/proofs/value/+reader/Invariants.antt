use Rattle.std.proofs.Common.{◌+◌, ◌*◌, length}
use Rattle.gl_json.specs.JsonReading.{rest_of, elements_at, item_at, member_at, value_at}
use Rattle.gl_json.proofs.ElementRead.{Skipping}
use Rattle.gl_json.proofs.value.+reader.Given as goal

abbrev pub decreases-array_at : goal.decreases-array_at
decreases-array_at l = 4 * l.levels

abbrev pub decreases-object_at : goal.decreases-object_at
decreases-object_at l = 4 * l.levels

abbrev pub decreases-value_at : goal.decreases-value_at
decreases-value_at l = 4 * l.levels + 1

abbrev pub decreases-item_at : goal.decreases-item_at
decreases-item_at l = 4 * l.levels + 2

abbrev pub decreases-member_at : goal.decreases-member_at
decreases-member_at l = 4 * l.levels + 2

abbrev pub decreases-items_end : goal.decreases-items_end
decreases-items_end l = 4 * l.levels + 3

abbrev pub decreases-members_end : goal.decreases-members_end
decreases-members_end l = 4 * l.levels + 3

abbrev pub invariant-items_end-loop-behind : goal.invariant-items_end-loop-behind
invariant-items_end-loop-behind l = Skipping (item_at (value_at l.levels)) 93 (rest_of (elements_at (item_at (value_at l.levels)) 93 l.bytes)) l.rest

abbrev pub decreases-items_end-loop-behind : goal.decreases-items_end-loop-behind
decreases-items_end-loop-behind l = length l.rest

abbrev pub invariant-members_end-loop-behind : goal.invariant-members_end-loop-behind
invariant-members_end-loop-behind l = Skipping (member_at (value_at l.levels)) 125 (rest_of (elements_at (member_at (value_at l.levels)) 125 l.bytes)) l.rest

abbrev pub decreases-members_end-loop-behind : goal.decreases-members_end-loop-behind
decreases-members_end-loop-behind l = length l.rest
