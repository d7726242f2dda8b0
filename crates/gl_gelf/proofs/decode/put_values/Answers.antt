use Rattle.std.proofs.Common.{[], ◌∷◌, codes}
use Rattle.std.proofs.lemmas.Result.{err_from_is_err_and}
use Rattle.gl_fields.specs.Putting.{text_field}
use Rattle.gl_gelf.proofs.Setting.{sets_err, sets_ok}
use Rattle.gl_gelf.proofs.decode.put_values.Goals as goal

pub returns-in_err-put_two : goal.returns-in_err-put_two
returns-in_err-put_two c =
    let p = err_from_is_err_and c.from_residual.result c.from_residual.ensures.1 in
    rw (p.1, p.2)
    (sets_err (text_field (codes "message") c.args.message ∷ text_field (codes "source") c.args.source ∷ []) (record { name = codes "timestamp"; value = c.args.timestamp } ∷ record { name = codes "level"; value = c.args.level } ∷ [])
    c.args.fields.now c.put_two.new.fields c.put_two.new.fields c.in_err-put_two.field-0.0 c.in_err-put_two.ensures)

pub returns : goal.returns
returns c =
    sets_ok (text_field (codes "message") c.args.message ∷ text_field (codes "source") c.args.source ∷ []) (record { name = codes "timestamp"; value = c.args.timestamp } ∷ record { name = codes "level"; value = c.args.level } ∷ [])
    c.args.fields.now c.put_two.new.fields c.put_two-2.new.fields c.put_two-2.result c.in_ok-put_two.ensures c.put_two-2.ensures
