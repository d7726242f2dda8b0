-- Member by member.
use Rattle.std.proofs.Common.{[], ◌∷◌}
use Rattle.std.specs.Prelude.{codes}
use Rattle.gl_bodies.specs.Json.{Member, count_at}
use Rattle.gl_bodies.specs.Replies.{error}
use Rattle.gl_api.proofs.refusals.budget_reply.Goals as goal

pub returns : goal.returns
returns c =
    let first : Member = error (codes "Budget") in
    let second : Member = count_at (codes "limit") c.args.limit in
    let third : Member = count_at (codes "sum") c.args.sum in
    let one = c.in_ok-put_text.ensures [] c.in_ok-body.ensures in
    let two = c.in_ok-put_number.ensures (first ∷ []) one in
    let three = c.in_ok-put_number-2.ensures (first ∷ second ∷ []) two in
    c.finish.ensures (first ∷ second ∷ third ∷ []) three
