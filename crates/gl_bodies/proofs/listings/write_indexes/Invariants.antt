-- What is written, and what is left.
use Rattle.std.proofs.Common.{drop}
use Rattle.json.specs.Tree.{json_tokens}
use Rattle.serde_json.specs.Written.{outline}
use Rattle.gl_bodies.specs.Json.{list_of}
use Rattle.gl_bodies.specs.Listings.{index_data}
use Rattle.gl_bodies.proofs.Values.{Goes, rest_of}
use Rattle.gl_bodies.proofs.listings.write_indexes.Given as goal

abbrev pub invariant-loop-index : goal.invariant-loop-index
invariant-loop-index l = Goes l.fn.body l.body (rest_of index_data (drop l.index-index l.indexes)) (json_tokens (outline (list_of index_data l.indexes)))
