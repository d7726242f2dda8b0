use Rattle.std.proofs.Common.{◌≡◌, refl, rules}
use Rattle.gl_words.specs.Inside.{kept_in}
use Rattle.gl_words.specs.Positions.{without_position}
use Rattle.gl_words.specs.Texts.{field_has, text_has}
use Rattle.gl_words.proofs.Walking.{changes_by, no_change, number_field, text_field}
use Rattle.gl_words.proofs.row.take_field.Goals as goal

pub returns-in-Text : goal.returns-in-Text
returns-in-Text c =
    let named : c.as_bytes.result.now ≡ c.args.field.now.name = search rules in
    let held : c.as_bytes-in-Text.result.now ≡ c.in-Text.text = search rules in
    changes_by (without_position c.args.position) (text_has c.as_bytes.result.now c.as_bytes-in-Text.result.now) (field_has c.args.field.now) (kept_in c.args.words.now) (kept_in c.take_text.new.words) (text_field c.args.field.now c.as_bytes.result.now c.as_bytes-in-Text.result.now c.in-Text.text named held c.in-Text.is) c.take_text.ensures

pub returns-in-Whole : goal.returns-in-Whole
returns-in-Whole c =
    no_change (without_position c.args.position) (field_has c.args.field.now) (kept_in c.args.words.now) (kept_in c.args.words.now) (number_field c.args.field.now _ c.in-Whole.is) (λ g s. refl)
