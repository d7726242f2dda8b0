use Rattle.std.proofs.Common.{◌+◌, filter, get_or, drop, refl, sym}
use Rattle.json.specs.Token.{begin_array}
use Rattle.json.specs.Tree.{json_tokens}
use Rattle.serde_json.specs.Written.{outline}
use Rattle.gl_pages.specs.Pages.{is_chosen}
use Rattle.gl_bodies.specs.Json.{list_of}
use Rattle.gl_bodies.specs.Pages.{id_data}
use Rattle.gl_bodies.proofs.Values.{begun, goes_as, kept_ends, kept_more, left_out, rest_of}
use Rattle.gl_bodies.proofs.page.write_ids.Goals as goal
use Rattle.gl_bodies.proofs.page.write_ids.Goals.{then-is_permitted+in_ok-write_id, else-is_permitted}

pub loop-id-init : goal.loop-id-init
loop-id-init c =
    begun c.args.body.now c.begin_array.new.self begin_array (rest_of id_data (filter (is_chosen c.args.permitted.now) c.args.ids.now))
    (c.in_ok-begin_array.ensures.room.0, c.in_ok-begin_array.ensures.ok)

pub loop-id-preserved : goal.loop-id-preserved
loop-id-preserved c =
    let ids = c.args.ids.now in
    let k = c.loop-id.id-index in
    let id = get_or ids k 0 in
    let test = is_chosen c.args.permitted.now in
    let all = json_tokens (outline (list_of id_data (filter test ids))) in
    let rest = rest_of id_data (filter test (drop (k + 1) ids)) in
    elim c.if-is_permitted.branch [
      | then-is_permitted+in_ok-write_id w ↦
          goes_as c.args.body.now w.write_id.new.body c.if-is_permitted.body rest all w.body-is
          (kept_more id_data test ids k 0 id c.args.body.now c.loop-id.body w.write_id.new.body all c.loop-id-test.true refl
          (sym w.if-is_permitted.ensures) w.in_ok-write_id.ensures c.loop-id.invariant)
      | else-is_permitted w ↦
          goes_as c.args.body.now c.loop-id.body c.if-is_permitted.body rest all w.body-is
          (left_out id_data test ids k 0 id c.args.body.now c.loop-id.body all c.loop-id-test.true refl
          (sym w.if-is_permitted.ensures) c.loop-id.invariant)
    ]

pub returns : goal.returns
returns c =
    let test = is_chosen c.args.permitted.now in
    kept_ends id_data test c.args.ids.now c.loop-id.id-index c.args.body.now c.loop-id.body c.end_array.new.self
    (json_tokens (outline (list_of id_data (filter test c.args.ids.now)))) c.loop-id-test.false
    (c.in_ok-end_array.ensures.room.0, c.in_ok-end_array.ensures.ok) c.loop-id.invariant
