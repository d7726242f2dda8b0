use Rattle.json.specs.Token.{begin_array}
use Rattle.json.specs.Tree.{json_tokens}
use Rattle.serde_json.specs.Written.{outline}
use Rattle.gl_bodies.specs.Json.{list_of}
use Rattle.gl_bodies.specs.Listings.{index_data}
use Rattle.gl_bodies.proofs.Values.{array_ends, begun, item_more, rest_of}
use Rattle.gl_bodies.proofs.listings.write_indexes.Goals as goal

pub loop-index-init : goal.loop-index-init
loop-index-init c =
    begun c.args.body.now c.begin_array.new.self begin_array (rest_of index_data c.args.indexes.now) (c.in_ok-begin_array.ensures.room.0, c.in_ok-begin_array.ensures.ok)

pub loop-index-preserved : goal.loop-index-preserved
loop-index-preserved c =
    item_more index_data c.args.indexes.now c.loop-index.index-index c.index-item.result c.index-item.result c.args.body.now c.loop-index.body c.write_index.new.body
    (json_tokens (outline (list_of index_data c.args.indexes.now))) c.loop-index-test.true c.index-item.is c.in_ok-write_index.ensures c.loop-index.invariant

pub returns : goal.returns
returns c =
    array_ends index_data c.args.indexes.now c.loop-index.index-index c.args.body.now c.loop-index.body c.end_array.new.self
    (json_tokens (outline (list_of index_data c.args.indexes.now))) c.loop-index-test.false (c.in_ok-end_array.ensures.room.0, c.in_ok-end_array.ensures.ok) c.loop-index.invariant
