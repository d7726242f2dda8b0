use Rattle.std.proofs.Common.{[], ◌∷◌}
use Rattle.std.specs.Prelude.{codes}
use Rattle.gl_bodies.specs.Json.{count_at}
use Rattle.gl_bodies.proofs.replies.version_reply.Goals as goal

pub returns : goal.returns
returns c = c.finish.ensures (count_at (codes "version") c.args.version ∷ []) (c.in_ok-put_number.ensures [] c.in_ok-body.ensures)
