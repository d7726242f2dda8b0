use Rattle.std.proofs.Common.{[], ◌∷◌}
use Rattle.std.specs.Prelude.{codes}
use Rattle.json.specs.Token.{key}
use Rattle.json.specs.Tree.{json_tokens}
use Rattle.serde_json.specs.Written.{outline}
use Rattle.gl_bodies.specs.Json.{list_of}
use Rattle.gl_bodies.specs.Listings.{permitted_streams, stream_data, streams_at}
use Rattle.gl_bodies.proofs.Members.{adds_both, has_more}
use Rattle.gl_bodies.proofs.listings.put_streams.Goals as goal

pub returns : goal.returns
returns c = λ members has.
    has_more c.args.body.now c.write_streams.new.body (streams_at c.args.permitted.now c.args.streams.now)
    (adds_both c.args.body.now c.key.new.self c.write_streams.new.body (key (codes "streams") ∷ [])
    (json_tokens (outline (list_of stream_data (permitted_streams c.args.permitted.now c.args.streams.now))))
    (c.in_ok-key.ensures.room.0, c.in_ok-key.ensures.ok) c.in_ok-write_streams.ensures) members has
