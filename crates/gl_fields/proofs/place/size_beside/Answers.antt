use Rattle.std.proofs.Common.{ap, arith}
use Rattle.gl_fields.specs.declared.field.Field.{Field}
use Rattle.gl_fields.specs.Fields.{field_size}
use Rattle.gl_fields.proofs.Setting.{size-at, size-before}
use Rattle.gl_fields.proofs.place.size_beside.Goals as goal

pub returns-in-Ok-clause-size : goal.returns-in-Ok-clause-size
returns-in-Ok-clause-size c = λ field e.
    let p = rw c.in-Ok.is at c.requires.place in
    let new = size-at c.args.name.now field c.args.fields.now c.in-Ok.at c.index-fields-at.result e p.0 p.1 in
    omega (arith, new, c.field_size.ensures, c.requires.size, ap (λ (f : Field). field_size f) c.index-fields-at.is)

pub returns-in-Err-clause-size : goal.returns-in-Err-clause-size
returns-in-Err-clause-size c = λ field e.
    let p = rw c.in-Err.is at c.requires.place in
    let new = size-before c.args.name.now field c.args.fields.now c.in-Err.field-0 e p in
    omega (arith, new, c.requires.size)
