use Rattle.std.proofs.Common.{[], ◌∷◌}
use Rattle.std.specs.Prelude.{codes}
use Rattle.gl_bodies.specs.Json.{text_at}
use Rattle.gl_bodies.specs.Replies.{error}
use Rattle.gl_bodies.proofs.replies.name_reply.Goals as goal

pub returns : goal.returns
returns c =
    let first = error c.args.error.now in
    c.finish.ensures (first ∷ text_at (codes "name") c.args.name.now ∷ []) (c.in_ok-put_text-2.ensures (first ∷ []) (c.in_ok-put_text.ensures [] c.in_ok-body.ensures))
