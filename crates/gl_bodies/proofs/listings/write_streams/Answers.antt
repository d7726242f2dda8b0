use Rattle.std.proofs.Common.{◌+◌, Bool, drop, sym}
use Rattle.json.specs.Token.{begin_array}
use Rattle.json.specs.Tree.{json_tokens}
use Rattle.serde_json.specs.Written.{outline}
use Rattle.gl_pages.specs.Pages.{is_chosen}
use Rattle.gl_streams.specs.declared.stream.Stream.{Stream}
use Rattle.gl_bodies.specs.Json.{list_of}
use Rattle.gl_bodies.specs.Listings.{permitted_streams, stream_data}
use Rattle.gl_bodies.proofs.Values.{begun, goes_as, kept_ends, kept_more, left_out, rest_of}
use Rattle.gl_bodies.proofs.listings.write_streams.Goals as goal
use Rattle.gl_bodies.proofs.listings.write_streams.Goals.{then-is_permitted+in_ok-write_stream, else-is_permitted}

pub loop-stream-init : goal.loop-stream-init
loop-stream-init c =
    begun c.args.body.now c.begin_array.new.self begin_array (rest_of stream_data (permitted_streams c.args.permitted.now c.args.streams.now))
    (c.in_ok-begin_array.ensures.room.0, c.in_ok-begin_array.ensures.ok)

pub loop-stream-preserved : goal.loop-stream-preserved
loop-stream-preserved c =
    let streams = c.args.streams.now in
    let k = c.loop-stream.stream-index in
    let stream = c.stream-item.result in
    let test : Stream → Bool = λ s. is_chosen c.args.permitted.now s.id in
    let all = json_tokens (outline (list_of stream_data (permitted_streams c.args.permitted.now streams))) in
    let rest = rest_of stream_data (permitted_streams c.args.permitted.now (drop (k + 1) streams)) in
    elim c.if-is_permitted.branch [
      | then-is_permitted+in_ok-write_stream w ↦
          goes_as c.args.body.now w.write_stream.new.body c.if-is_permitted.body rest all w.body-is
          (kept_more stream_data test streams k stream stream c.args.body.now c.loop-stream.body w.write_stream.new.body all c.loop-stream-test.true c.stream-item.is
          (sym w.if-is_permitted.ensures) w.in_ok-write_stream.ensures c.loop-stream.invariant)
      | else-is_permitted w ↦
          goes_as c.args.body.now c.loop-stream.body c.if-is_permitted.body rest all w.body-is
          (left_out stream_data test streams k stream stream c.args.body.now c.loop-stream.body all c.loop-stream-test.true c.stream-item.is
          (sym w.if-is_permitted.ensures) c.loop-stream.invariant)
    ]

pub returns : goal.returns
returns c =
    let test : Stream → Bool = λ s. is_chosen c.args.permitted.now s.id in
    kept_ends stream_data test c.args.streams.now c.loop-stream.stream-index c.args.body.now c.loop-stream.body c.end_array.new.self
    (json_tokens (outline (list_of stream_data (permitted_streams c.args.permitted.now c.args.streams.now)))) c.loop-stream-test.false
    (c.in_ok-end_array.ensures.room.0, c.in_ok-end_array.ensures.ok) c.loop-stream.invariant
