use Rattle.std.proofs.Common.{[], ◌∷◌}
use Rattle.std.proofs.lemmas.Result.{err_from_is_err_and}
use Rattle.gl_gelf.proofs.Setting.{sets_err, sets_ok}
use Rattle.gl_gelf.proofs.decode.put_two.Goals as goal

pub returns-in_err-put : goal.returns-in_err-put
returns-in_err-put c =
    let p = err_from_is_err_and c.from_residual.result c.from_residual.ensures.1 in
    rw (p.1, p.2) (sets_err (record { name = c.args.name.now; value = c.args.value } ∷ []) (record { name = c.args.next_name.now; value = c.args.next_value } ∷ []) c.args.fields.now c.put.new.fields c.put.new.fields c.in_err-put.field-0.0 c.in_err-put.ensures)

pub returns : goal.returns
returns c =
    sets_ok (record { name = c.args.name.now; value = c.args.value } ∷ []) (record { name = c.args.next_name.now; value = c.args.next_value } ∷ []) c.args.fields.now c.put.new.fields c.put-2.new.fields c.put-2.result c.in_ok-put.ensures c.put-2.ensures
