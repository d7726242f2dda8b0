use Rattle.std.proofs.Common.{length, map}
use Rattle.gl_json.specs.JsonReading.{elements_at, member_at, value_at}
use Rattle.gl_json.specs.Views.{pair_view}
use Rattle.gl_json.proofs.ElementRead.{Collecting}
use Rattle.gl_json.proofs.read.members_at.Given as goal

abbrev pub invariant-loop-members : goal.invariant-loop-members
invariant-loop-members l = Collecting (member_at (value_at l.levels)) 125 (elements_at (member_at (value_at l.levels)) 125 l.bytes) (map pair_view l.members.items) l.rest

abbrev pub decreases-loop-members : goal.decreases-loop-members
decreases-loop-members l = length l.rest
