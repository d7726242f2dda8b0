-- What is written, and what is left.
use Rattle.std.proofs.Common.{filter, drop}
use Rattle.json.specs.Tree.{json_tokens}
use Rattle.serde_json.specs.Written.{outline}
use Rattle.gl_pages.specs.Pages.{is_chosen}
use Rattle.gl_bodies.specs.Json.{list_of}
use Rattle.gl_bodies.specs.Pages.{id_data}
use Rattle.gl_bodies.proofs.Values.{Goes, rest_of}
use Rattle.gl_bodies.proofs.page.write_ids.Given as goal

abbrev pub invariant-loop-id : goal.invariant-loop-id
invariant-loop-id l =
    Goes l.fn.body l.body (rest_of id_data (filter (is_chosen l.permitted) (drop l.id-index l.ids)))
    (json_tokens (outline (list_of id_data (filter (is_chosen l.permitted) l.ids))))
