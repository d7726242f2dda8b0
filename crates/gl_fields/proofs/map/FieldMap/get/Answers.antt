-- The search parts the map, and the fields of the name are the one at the place, or none.
use Rattle.std.proofs.Common.{ap, sym, ◌∙◌, Some}
use Rattle.gl_fields.specs.declared.field.Field.{Field}
use Rattle.gl_fields.specs.Fields.{value_of}
use Rattle.gl_fields.proofs.Placing.{value_of-old, value_of-new}
use Rattle.gl_fields.proofs.map.FieldMap.get.Goals as goal

pub returns-in-Ok : goal.returns-in-Ok
returns-in-Ok c =
    let p = rw c.as_slice.ensures.value at c.in-Ok.ensures in
    ap (λ (f : Field). Some f.value) c.index.ensures
    ∙ sym (value_of-old c.args.name.now c.self.inside.fields.items c.in-Ok.at c.index.result.now p.0 p.1)
    ∙ ap (value_of c.args.name.now) c.self.view_is

pub returns-in-Err : goal.returns-in-Err
returns-in-Err c =
    let p = rw c.as_slice.ensures.value at c.in-Err.ensures in
    sym (value_of-new c.args.name.now c.self.inside.fields.items c.in-Err.field-0 p) ∙ ap (value_of c.args.name.now) c.self.view_is
