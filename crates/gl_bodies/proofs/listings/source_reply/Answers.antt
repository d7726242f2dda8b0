use Rattle.std.proofs.Common.{[], ◌∷◌}
use Rattle.std.specs.Prelude.{codes}
use Rattle.gl_bodies.specs.Json.{text_at}
use Rattle.gl_bodies.proofs.listings.source_reply.Goals as goal

pub returns : goal.returns
returns c = c.finish.ensures (text_at (codes "source") c.args.source.now ∷ []) (c.in_ok-put_text.ensures [] c.in_ok-body.ensures)
