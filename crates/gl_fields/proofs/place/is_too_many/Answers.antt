use Rattle.std.proofs.Common.{◌≡◌, ℕ, ◌+◌, ltb, leb, length, ap, sym, ◌∙◌, arith}
use Rattle.std.proofs.lemmas.Bool.Decides.{nat_tests}
use Rattle.gl_fields.proofs.Setting.{length-at, length-before}
use Rattle.gl_fields.proofs.place.is_too_many.Goals as goal

one_more : (n : ℕ) → leb 256 n ≡ ltb 256 (n + 1)
one_more n = grind (arith, nat_tests)

pub returns-in-Ok : goal.returns-in-Ok
returns-in-Ok c = λ field e.
    let p = rw c.in-Ok.is at c.requires in
    ap (ltb 256) (sym (length-at c.args.name.now field c.args.fields.now c.in-Ok.field-0 e p.0 p.1))

pub returns-in-Err : goal.returns-in-Err
returns-in-Err c = λ field e.
    let p = rw c.in-Err.is at c.requires in
    one_more (length c.args.fields.now) ∙ ap (ltb 256) (sym (length-before c.args.name.now field c.args.fields.now c.in-Err.field-0 e p))
