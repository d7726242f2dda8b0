use Rattle.std.proofs.Common.{◌≡◌, refl, rules}
use Rattle.std.proofs.lemmas.Result.{on_ok_weaker, on_err_weaker}
use Rattle.gl_words.specs.Inside.{kept_in}
use Rattle.gl_words.specs.Positions.{with_position}
use Rattle.gl_words.specs.Texts.{field_has, text_has}
use Rattle.gl_words.proofs.Walking.{changes_by, no_change, number_field, stays_by, text_field}
use Rattle.gl_words.proofs.row.put_field.Goals as goal

pub returns-in-Text-clause-ok : goal.returns-in-Text-clause-ok
returns-in-Text-clause-ok c =
    let named : c.as_bytes.result.now ≡ c.args.field.now.name = search rules in
    let held : c.as_bytes-in-Text.result.now ≡ c.in-Text.text = search rules in
    on_ok_weaker c.put_text.result
    (changes_by (with_position c.args.position) (text_has c.as_bytes.result.now c.as_bytes-in-Text.result.now) (field_has c.args.field.now) (kept_in c.args.words.now) (kept_in c.put_text.new.words) (text_field c.args.field.now c.as_bytes.result.now c.as_bytes-in-Text.result.now c.in-Text.text named held c.in-Text.is))
    c.put_text.ensures.ok

pub returns-in-Text-clause-err : goal.returns-in-Text-clause-err
returns-in-Text-clause-err c =
    let named : c.as_bytes.result.now ≡ c.args.field.now.name = search rules in
    let held : c.as_bytes-in-Text.result.now ≡ c.in-Text.text = search rules in
    on_err_weaker c.put_text.result
    (stays_by c.args.position (text_has c.as_bytes.result.now c.as_bytes-in-Text.result.now) (field_has c.args.field.now) (kept_in c.args.words.now) (kept_in c.put_text.new.words) (text_field c.args.field.now c.as_bytes.result.now c.as_bytes-in-Text.result.now c.in-Text.text named held c.in-Text.is))
    c.put_text.ensures.err

pub returns-in-Whole-clause-ok : goal.returns-in-Whole-clause-ok
returns-in-Whole-clause-ok c =
    no_change (with_position c.args.position) (field_has c.args.field.now) (kept_in c.args.words.now) (kept_in c.args.words.now) (number_field c.args.field.now _ c.in-Whole.is) (λ g s. refl)
