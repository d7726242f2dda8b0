use Rattle.json.specs.Token.{begin_object}
use Rattle.json.specs.Tree.{json_tokens}
use Rattle.serde_json.specs.Written.{outline}
use Rattle.gl_bodies.specs.Pages.{field_member, fields_data}
use Rattle.gl_bodies.proofs.Values.{begun, member_more, members_rest, object_ends}
use Rattle.gl_bodies.proofs.page.write_fields.Goals as goal

pub loop-field-init : goal.loop-field-init
loop-field-init c =
    begun c.args.body.now c.begin_object.new.self begin_object (members_rest field_member c.args.fields.now) (c.in_ok-begin_object.ensures.room.0, c.in_ok-begin_object.ensures.ok)

pub loop-field-preserved : goal.loop-field-preserved
loop-field-preserved c =
    member_more field_member c.args.fields.now c.loop-field.field-index c.field-item.result c.field-item.result c.args.body.now c.loop-field.body c.write_field.new.body
    (json_tokens (outline (fields_data c.args.fields.now))) c.loop-field-test.true c.field-item.is c.in_ok-write_field.ensures c.loop-field.invariant

pub returns : goal.returns
returns c =
    object_ends field_member c.args.fields.now c.loop-field.field-index c.args.body.now c.loop-field.body c.end_object.new.self
    (json_tokens (outline (fields_data c.args.fields.now))) c.loop-field-test.false (c.in_ok-end_object.ensures.room.0, c.in_ok-end_object.ensures.ok) c.loop-field.invariant
