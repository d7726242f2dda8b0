use Rattle.std.proofs.Common.{[], ◌∷◌}
use Rattle.gl_bodies.specs.Json.{count_at}
use Rattle.gl_bodies.specs.Replies.{error}
use Rattle.gl_bodies.proofs.replies.count_reply.Goals as goal

pub returns : goal.returns
returns c =
    let first = error c.args.name.now in
    c.finish.ensures (first ∷ count_at c.args.key.now c.args.count ∷ []) (c.in_ok-put_number.ensures (first ∷ []) (c.in_ok-put_text.ensures [] c.in_ok-body.ensures))
