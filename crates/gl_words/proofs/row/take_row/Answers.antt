use Rattle.std.proofs.Common.{◌≡◌, rules}
use Rattle.gl_words.specs.Inside.{kept_in}
use Rattle.gl_words.specs.Positions.{without_position}
use Rattle.gl_words.specs.Texts.{some_has}
use Rattle.gl_words.proofs.Standing.{row_has}
use Rattle.gl_words.proofs.Walking.{changes_by, row_alike}
use Rattle.gl_words.proofs.row.take_row.Goals as goal

pub returns : goal.returns
returns c =
    let slice : c.as_slice.result.now ≡ c.args.row.now.fields = search rules in
    changes_by (without_position c.args.row.now.position) (some_has c.as_slice.result.now) (row_has c.args.row.now) (kept_in c.args.words.now) (kept_in c.take_fields.new.words) (row_alike c.as_slice.result.now c.get-fields.result.now c.args.row.now.fields slice c.get-fields.ensures c.len-count.ensures.lawful.rises) c.take_fields.ensures
