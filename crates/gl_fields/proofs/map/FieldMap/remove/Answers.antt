use Rattle.std.proofs.Common.{refl, ap, sym, ◌∙◌}
use Rattle.gl_fields.specs.Fields.{without, removal}
use Rattle.gl_fields.proofs.Moving.{removed, removal-there, without-new, removal-none, IsFieldMap-without}
use Rattle.gl_fields.proofs.map.FieldMap.remove.Goals as goal

pub returns-then-stays-clause-answer : goal.returns-then-stays-clause-answer
returns-then-stays-clause-answer c =
    let p = rw c.as_slice.ensures.value at c.in-Ok.ensures in
    sym (ap (removal c.args.name.now) (sym c.self.view_is) ∙ removal-there c.args.name.now c.self.inside.fields.items c.in-Ok.at p.0 p.1 ∙ rw (sym c.if-stays.ensures) refl)

pub invariant_of-self : goal.invariant_of-self
invariant_of-self c =
    let p = rw c.as_slice.ensures.value at c.in-Ok.ensures in (
      rw (c.remove_at-size.ensures.items, removed c.args.name.now c.self.inside.fields.items c.in-Ok.at p.0 p.1) (IsFieldMap-without c.args.name.now c.self.inside.fields.items c.self.invariant.0),
      c.remove_at-size.ensures.size,
    )

pub returns-else-stays-clause-ok : goal.returns-else-stays-clause-ok
returns-else-stays-clause-ok c =
    let p = rw c.as_slice.ensures.value at c.in-Ok.ensures in
    c.remove_at-size.ensures.items ∙ removed c.args.name.now c.self.inside.fields.items c.in-Ok.at p.0 p.1 ∙ ap (without c.args.name.now) c.self.view_is

pub returns-else-stays-clause-answer : goal.returns-else-stays-clause-answer
returns-else-stays-clause-answer c =
    let p = rw c.as_slice.ensures.value at c.in-Ok.ensures in
    sym (ap (removal c.args.name.now) (sym c.self.view_is) ∙ removal-there c.args.name.now c.self.inside.fields.items c.in-Ok.at p.0 p.1 ∙ rw (sym c.if-stays.ensures) refl)

pub returns-in-Err-clause-ok : goal.returns-in-Err-clause-ok
returns-in-Err-clause-ok c =
    let p = rw c.as_slice.ensures.value at c.in-Err.ensures in
    sym (ap (without c.args.name.now) (sym c.self.view_is) ∙ without-new c.args.name.now c.self.inside.fields.items c.in-Err.field-0 p ∙ c.self.view_is)

pub returns-in-Err-clause-answer : goal.returns-in-Err-clause-answer
returns-in-Err-clause-answer c =
    let p = rw c.as_slice.ensures.value at c.in-Err.ensures in
    sym (ap (removal c.args.name.now) (sym c.self.view_is) ∙ removal-none c.args.name.now c.self.inside.fields.items c.in-Err.field-0 p)
