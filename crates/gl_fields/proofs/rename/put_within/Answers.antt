use Rattle.std.proofs.Common.{◌∙◌, sym, ap, arith, add-one, ◌++◌, ◌∷◌, ℕ, take, drop}
use Rattle.std.proofs.lemmas.List.{set_split}
use Rattle.gl_fields.proofs.Placing.{with_field-old, with_field-new}
use Rattle.gl_fields.proofs.rename.put_within.Goals as goal

pub returns-in-Ok : goal.returns-in-Ok
returns-in-Ok c =
    let p = rw c.in-Ok.is at c.requires.place in
    set_split c.args.fields.now.items c.in-Ok.at c.args.field (omega (arith, p.0.within))
    ∙ ap (λ (n : ℕ). take c.in-Ok.at c.args.fields.now.items ++ c.args.field ∷ drop n c.args.fields.now.items) (sym (add-one c.in-Ok.at))
    ∙ sym (with_field-old c.args.field c.args.fields.now.items c.in-Ok.at p.0 p.1)

pub returns-in-Err : goal.returns-in-Err
returns-in-Err c =
    let p = rw c.in-Err.is at c.requires.place in
    c.insert_within.ensures ∙ sym (with_field-new c.args.field c.args.fields.now.items c.in-Err.at p)
