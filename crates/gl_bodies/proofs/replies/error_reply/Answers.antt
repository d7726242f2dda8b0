use Rattle.std.proofs.Common.{[], ◌∷◌}
use Rattle.gl_bodies.specs.Replies.{error}
use Rattle.gl_bodies.proofs.replies.error_reply.Goals as goal

pub returns : goal.returns
returns c = c.finish.ensures (error c.args.name.now ∷ []) (c.in_ok-put_text.ensures [] c.in_ok-body.ensures)
