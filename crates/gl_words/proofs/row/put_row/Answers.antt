use Rattle.std.proofs.Common.{◌≡◌, rules}
use Rattle.std.proofs.lemmas.Result.{on_ok_weaker, on_err_weaker}
use Rattle.gl_words.specs.Inside.{kept_in}
use Rattle.gl_words.specs.Positions.{with_position}
use Rattle.gl_words.specs.Texts.{some_has}
use Rattle.gl_words.proofs.Standing.{row_has}
use Rattle.gl_words.proofs.Walking.{changes_by, row_alike, stays_by}
use Rattle.gl_words.proofs.row.put_row.Goals as goal

pub returns-clause-ok : goal.returns-clause-ok
returns-clause-ok c =
    let slice : c.as_slice.result.now ≡ c.args.row.now.fields = search rules in
    on_ok_weaker c.put_fields.result
    (changes_by (with_position c.args.row.now.position) (some_has c.as_slice.result.now) (row_has c.args.row.now) (kept_in c.args.words.now) (kept_in c.put_fields.new.words) (row_alike c.as_slice.result.now c.get-fields.result.now c.args.row.now.fields slice c.get-fields.ensures c.len-count.ensures.lawful.rises))
    c.put_fields.ensures.ok

pub returns-clause-err : goal.returns-clause-err
returns-clause-err c =
    let slice : c.as_slice.result.now ≡ c.args.row.now.fields = search rules in
    on_err_weaker c.put_fields.result
    (stays_by c.args.row.now.position (some_has c.as_slice.result.now) (row_has c.args.row.now) (kept_in c.args.words.now) (kept_in c.put_fields.new.words) (row_alike c.as_slice.result.now c.get-fields.result.now c.args.row.now.fields slice c.get-fields.ensures c.len-count.ensures.lawful.rises))
    c.put_fields.ensures.err
