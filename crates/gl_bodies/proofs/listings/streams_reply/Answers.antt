use Rattle.std.proofs.Common.{[], ◌∷◌}
use Rattle.gl_bodies.specs.Listings.{streams_at}
use Rattle.gl_bodies.proofs.listings.streams_reply.Goals as goal

pub returns : goal.returns
returns c = c.finish.ensures (streams_at c.args.permitted.now c.args.streams.now ∷ []) (c.in_ok-put_streams.ensures [] c.in_ok-body.ensures)
