use Rattle.std.proofs.Common.{sym, ◌∙◌}
use Rattle.std.proofs.lemmas.Result.{on_ok_weaker}
use Rattle.gl_fields.specs.declared.field.Field.{Field}
use Rattle.gl_fields.proofs.Placing.{with_field-new}
use Rattle.gl_fields.proofs.Setting.{set-at}
use Rattle.gl_fields.proofs.place.put.Goals as goal

pub returns-in-Ok-clause-ok : goal.returns-in-Ok-clause-ok
returns-in-Ok-clause-ok c =
    let field : Field = record { name = c.args.name.now; value = c.args.value } in
    let p = rw c.in-Ok.is at c.requires in
    c.replace_at.ensures field ∙ set-at field c.args.fields.now.items c.in-Ok.at p.0 p.1

pub returns-in-Err-clause-ok : goal.returns-in-Err-clause-ok
returns-in-Err-clause-ok c =
    let field : Field = record { name = c.args.name.now; value = c.args.value } in
    let p = rw c.in-Err.is at c.requires in
    on_ok_weaker c.insert_at.result (λ e. e ∙ sym (with_field-new field c.args.fields.now.items c.in-Err.at p)) c.insert_at.ensures.ok
