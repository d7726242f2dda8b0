use Rattle.std.proofs.Common.{◌≡◌, Err, sym, ap, ◌∙◌, subst, Option}
use Rattle.std.specs.Prelude.{MatchOption, IfErr}
use Rattle.std.proofs.lemmas.Result.{err_from_is_err_and}
use Rattle.gl_fields.specs.declared.field.Field.{Field}
use Rattle.gl_fields.specs.declared.field.FieldRefusal.{FieldRefusal}
use Rattle.gl_fields.specs.declared.field.FieldRefusal.TheVariants.{OutOfMemory}
use Rattle.gl_fields.specs.Fields.{counted_size, refusal_of, with_field}
use Rattle.gl_fields.proofs.Setting.{IsFieldMap-with_field, sized, refused_so}
use Rattle.gl_fields.proofs.map.FieldMap.set.Goals as goal

pub returns-in_err-size-clause-cause : goal.returns-in_err-size-clause-cause
returns-in_err-size-clause-cause c =
    let field : Field = record { name = c.args.name.now; value = c.args.value } in
    let q = err_from_is_err_and c.from_residual.result c.from_residual.ensures.1 in
    let answer = rw (c.as_slice-2.ensures.value, c.self.view_is) at c.in_err-size.ensures.answer in
    let cause = refused_so (refusal_of field c.args.self.now) (counted_size (with_field field c.args.self.now)) c.in_err-size.field-0.0 answer in
    subst (λ (o : Option FieldRefusal). MatchOption o (IfErr c.from_residual.result (λ e. e ≡ OutOfMemory)) (λ r. c.from_residual.result ≡ Err r)) (sym cause)
    (q.1 ∙ ap (λ (e : FieldRefusal). Err e) q.2)

pub invariant_of-self-2 : goal.invariant_of-self-2
invariant_of-self-2 c =
    let field : Field = record { name = c.args.name.now; value = c.args.value } in
    let answer = rw c.as_slice-2.ensures.value at c.in_ok-size.ensures.answer in
    let both = sized (refusal_of field c.self.inside.fields.items) (counted_size (with_field field c.self.inside.fields.items)) c.in_ok-size.size answer in
    rw c.in_ok-put.ensures.ok (IsFieldMap-with_field field c.self.inside.fields.items both.0 c.self.invariant.0 c.in_ok-size.ensures.lawful, both.1)
