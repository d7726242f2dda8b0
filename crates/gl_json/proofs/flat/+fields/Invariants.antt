use Rattle.std.proofs.Common.{◌+◌, ◌*◌, take, map}
use Rattle.gl_json.specs.Flattening.{Grows}
use Rattle.gl_json.specs.Views.{pair_view, field_view}
use Rattle.gl_json.proofs.flat.+fields.Given as goal

abbrev pub decreases-push_members : goal.decreases-push_members
decreases-push_members l = 3 * l.levels + 2

abbrev pub decreases-push_member : goal.decreases-push_member
decreases-push_member l = 3 * l.levels + 1

abbrev pub decreases-push_object : goal.decreases-push_object
decreases-push_object l = 3 * l.levels

abbrev pub invariant-push_members-loop-member : goal.invariant-push_members-loop-member
invariant-push_members-loop-member l = Grows l.levels l.prefix (map pair_view (take l.member-index l.members)) (map field_view l.fn.fields.items) (map field_view l.fields.items)
