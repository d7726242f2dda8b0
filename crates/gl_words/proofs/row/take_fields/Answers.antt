use Rattle.std.proofs.Common.{◌-◌, length, take, drop, refl, arith}
use Rattle.gl_words.specs.Inside.{kept_in}
use Rattle.gl_words.specs.Positions.{without_position}
use Rattle.gl_words.specs.Texts.{field_has, some_has}
use Rattle.gl_words.proofs.Walking.{fields_more, fields_over, leads_on, no_change, without_twice}
use Rattle.gl_words.proofs.row.take_fields.Goals as goal

pub loop-left-preserved : goal.loop-left-preserved
loop-left-preserved c =
    let left = c.loop-left.left.now in
    leads_on (without_position c.args.position) (without_twice c.args.position) (field_has c.field-item.result) (some_has (take (length left - 1) (drop 1 left))) (some_has left) (some_has c.args.fields.now)
    (kept_in c.args.words.now) (kept_in c.loop-left.words) (kept_in c.take_field.new.words) (fields_more left c.field-item.result (omega (arith, c.in-len1-up.len_at_least)) c.field-item.is) c.take_field.ensures c.loop-left.invariant

pub returns : goal.returns
returns c =
    c.loop-left.invariant (kept_in c.loop-left.words)
    (no_change (without_position c.args.position) (some_has c.loop-left.left.now) (kept_in c.loop-left.words) (kept_in c.loop-left.words) (fields_over c.loop-left.left.now (omega (arith, c.in_default.len_below))) (λ g s. refl))
