use Rattle.std.proofs.Common.{List, filter, subst}
use Rattle.std.specs.Prelude.{codes}
use Rattle.json.specs.Tree.{json_tokens}
use Rattle.serde_json.specs.Written.{outline}
use Rattle.gl_fields.specs.declared.field.Field.{Field}
use Rattle.gl_pages.specs.Pages.{is_chosen}
use Rattle.gl_bodies.specs.Json.{list_of}
use Rattle.gl_bodies.specs.Pages.{fields_data, id_data}
use Rattle.gl_bodies.specs.Writing.{Adds}
use Rattle.gl_bodies.proofs.Members.{object_of_two}
use Rattle.gl_bodies.proofs.page.write_message.Goals as goal

pub returns : goal.returns
returns c =
    object_of_two c.args.body.now c.begin_object.new.self c.key.new.self c.write_fields.new.body c.key-2.new.self c.write_ids.new.body c.end_object.new.self
    (codes "fields") (codes "streams") (json_tokens (outline (fields_data c.args.message.now.fields.now))) (json_tokens (outline (list_of id_data (filter (is_chosen c.args.permitted.now) c.args.message.now.streams.now))))
    (c.in_ok-begin_object.ensures.room.0, c.in_ok-begin_object.ensures.ok) (c.in_ok-key.ensures.room.0, c.in_ok-key.ensures.ok)
    (subst (λ (fs : List Field). Adds c.key.new.self c.write_fields.new.body (json_tokens (outline (fields_data fs)))) c.as_slice.ensures c.in_ok-write_fields.ensures)
    (c.in_ok-key-2.ensures.room.0, c.in_ok-key-2.ensures.ok)
    c.in_ok-write_ids.ensures
    (c.in_ok-end_object.ensures.room.0, c.in_ok-end_object.ensures.ok)
