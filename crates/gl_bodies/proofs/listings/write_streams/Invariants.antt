-- What is written, and what is left.
use Rattle.std.proofs.Common.{drop}
use Rattle.json.specs.Tree.{json_tokens}
use Rattle.serde_json.specs.Written.{outline}
use Rattle.gl_bodies.specs.Json.{list_of}
use Rattle.gl_bodies.specs.Listings.{permitted_streams, stream_data}
use Rattle.gl_bodies.proofs.Values.{Goes, rest_of}
use Rattle.gl_bodies.proofs.listings.write_streams.Given as goal

abbrev pub invariant-loop-stream : goal.invariant-loop-stream
invariant-loop-stream l =
    Goes l.fn.body l.body (rest_of stream_data (permitted_streams l.permitted (drop l.stream-index l.streams)))
    (json_tokens (outline (list_of stream_data (permitted_streams l.permitted l.streams))))
