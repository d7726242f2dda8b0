use Rattle.std.proofs.Common.{[], ◌∷◌}
use Rattle.std.specs.Prelude.{codes}
use Rattle.gl_bodies.specs.Json.{count_at}
use Rattle.gl_bodies.specs.Replies.{error}
use Rattle.gl_bodies.proofs.replies.place_reply.Goals as goal

pub returns : goal.returns
returns c =
    let at = count_at (codes "at") c.args.at in
    c.finish.ensures (at ∷ error c.args.name.now ∷ []) (c.in_ok-put_text.ensures (at ∷ []) (c.in_ok-put_number.ensures [] c.in_ok-body.ensures))
