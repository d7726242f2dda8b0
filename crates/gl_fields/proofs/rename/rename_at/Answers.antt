use Rattle.std.proofs.Common.{◌≡◌, sym, ◌∙◌, ap, subst, List, ℕ, Err, Option, Some, None, arith}
use Rattle.gl_fields.specs.declared.field.Field.{Field}
use Rattle.gl_fields.specs.declared.field.FieldRefusal.{FieldRefusal}
use Rattle.gl_fields.specs.Fields.{with_field, without, moved, refusal_of, IsField, IsFieldMap}
use Rattle.gl_fields.proofs.Moving.{removed, value_there, IsFieldMap-without, Refuses, none_refused, not_refused, some_same, still_refused}
use Rattle.gl_fields.proofs.Setting.{IsFieldMap-with_field}
use Rattle.gl_fields.proofs.rename.rename_at.Goals as goal

pub position_of-place-requires : goal.position_of-place-requires
position_of-place-requires c =
    let p = c.requires.place in
    rw (c.as_slice.ensures.value, c.remove-field.ensures.items, removed c.args.from.now c.args.fields.now.items c.args.at p.0 p.1)
    (IsFieldMap-without c.args.from.now c.args.fields.now.items c.requires.map)

pub returns-in-Ok-clause-ok : goal.returns-in-Ok-clause-ok
returns-in-Ok-clause-ok c =
    let p = c.requires.place in
    let gone = c.remove-field.ensures.items ∙ removed c.args.from.now c.args.fields.now.items c.args.at p.0 p.1 in
    let held = value_there c.args.from.now c.args.fields.now.items c.args.at p.0 p.1 c.remove-field.result ∙ ap (λ (f : Field). Some f.value) (sym c.remove-field.ensures.value) in
    let moved_is = ap (moved c.args.from.now c.args.to.now c.args.fields.now.items) held in
    c.put_within.ensures ∙ (λ i. with_field (record { name = c.in-Ok.ensures.name i; value = c.remove-field.result.value }) (gone i)) ∙ sym moved_is

pub returns-in-Ok-clause-map : goal.returns-in-Ok-clause-map
returns-in-Ok-clause-map c =
    let p = c.requires.place in
    let field : Field = record { name = c.args.to.now; value = c.remove-field.result.value } in
    let gone = c.remove-field.ensures.items ∙ removed c.args.from.now c.args.fields.now.items c.args.at p.0 p.1 in
    let none = none_refused (c.in-Ok.name, c.in-Ok.size) (refusal_of field c.remove-field.new.self.items) c.in-Ok.ensures.cause in
    let is_field : IsField c.remove-field.result = subst IsField (sym c.remove-field.ensures.value) (c.requires.map.each c.args.at c.remove-field.result (omega (arith, p.0.within))) in
    let map : IsFieldMap c.remove-field.new.self.items = rw gone (IsFieldMap-without c.args.from.now c.args.fields.now.items c.requires.map) in
    rw (c.put_within.ensures, c.in-Ok.ensures.name) (IsFieldMap-with_field field c.remove-field.new.self.items none map is_field.value)

pub returns-in-Ok-clause-cause : goal.returns-in-Ok-clause-cause
returns-in-Ok-clause-cause c = λ value e.
    let p = c.requires.place in
    let gone = c.remove-field.ensures.items ∙ removed c.args.from.now c.args.fields.now.items c.args.at p.0 p.1 in
    let held = value_there c.args.from.now c.args.fields.now.items c.args.at p.0 p.1 c.remove-field.result ∙ ap (λ (f : Field). Some f.value) (sym c.remove-field.ensures.value) in
    let same : c.remove-field.result.value ≡ value = some_same (sym held ∙ e) in
    let none = none_refused (c.in-Ok.name, c.in-Ok.size) (refusal_of (record { name = c.args.to.now; value = c.remove-field.result.value }) c.remove-field.new.self.items) c.in-Ok.ensures.cause in
    let still : refusal_of (record { name = c.args.to.now; value = value }) (without c.args.from.now c.args.fields.now.items) ≡ None =
    sym (λ i. refusal_of (record { name = c.args.to.now; value = same i }) (gone i)) ∙ none in
    not_refused (refusal_of (record { name = c.args.to.now; value = value }) (without c.args.from.now c.args.fields.now.items)) still c.in-Ok.size

pub returns-in-Err-clause-cause : goal.returns-in-Err-clause-cause
returns-in-Err-clause-cause c = λ value e.
    let p = c.requires.place in
    let gone = c.remove-field.ensures.items ∙ removed c.args.from.now c.args.fields.now.items c.args.at p.0 p.1 in
    let held = value_there c.args.from.now c.args.fields.now.items c.args.at p.0 p.1 c.remove-field.result ∙ ap (λ (f : Field). Some f.value) (sym c.remove-field.ensures.value) in
    let same : c.remove-field.result.value ≡ value = some_same (sym held ∙ e) in
    let cause_is : refusal_of (record { name = c.args.to.now; value = c.remove-field.result.value }) c.remove-field.new.self.items ≡ refusal_of (record { name = c.args.to.now; value = value }) (without c.args.from.now c.args.fields.now.items) = λ i. refusal_of (record { name = c.args.to.now; value = same i }) (gone i) in
    subst (λ (o : Option FieldRefusal). Refuses {X = ℕ} o (Err c.in-Err.cause)) cause_is
    (still_refused (List ℕ × ℕ) ℕ c.in-Err.cause (refusal_of (record { name = c.args.to.now; value = c.remove-field.result.value }) c.remove-field.new.self.items) c.in-Err.ensures.cause)
