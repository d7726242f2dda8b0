use Rattle.std.proofs.Common.{◌-◌, length, take, drop, refl, arith}
use Rattle.gl_words.specs.Inside.{kept_in}
use Rattle.gl_words.specs.Positions.{with_position}
use Rattle.gl_words.specs.Texts.{field_has, some_has}
use Rattle.gl_words.proofs.Walking.{at_err, fields_more, fields_over, leads_on, no_change, spares_err, spares_on, with_twice}
use Rattle.gl_words.proofs.row.put_fields.Goals as goal

pub loop-left-preserved : goal.loop-left-preserved
loop-left-preserved c =
    let left = c.loop-left.left.now in
    let rest = take (length left - 1) (drop 1 left) in
    let alike = fields_more left c.field-item.result (omega (arith, c.in-len1-up.len_at_least)) c.field-item.is in (
      leads_on (with_position c.args.position) (with_twice c.args.position) (field_has c.field-item.result) (some_has rest) (some_has left) (some_has c.args.fields.now)
          (kept_in c.args.words.now) (kept_in c.loop-left.words) (kept_in c.put_field.new.words) alike c.in_ok-put_field.ensures.ok c.loop-left.invariant.0,
      spares_on c.args.position (field_has c.field-item.result) (some_has rest) (some_has left) (some_has c.args.fields.now)
          (kept_in c.args.words.now) (kept_in c.loop-left.words) (kept_in c.put_field.new.words) alike c.in_ok-put_field.ensures.ok c.loop-left.invariant.1,
    )

pub returns-in_err-put_field-clause-err : goal.returns-in_err-put_field-clause-err
returns-in_err-put_field-clause-err c =
    let left = c.loop-left.left.now in
    let alike = fields_more left c.field-item.result (omega (arith, c.in-len1-up.len_at_least)) c.field-item.is in
    at_err c.from_residual.result
    (spares_err c.args.position (field_has c.field-item.result) (some_has (take (length left - 1) (drop 1 left))) (some_has left) (some_has c.args.fields.now)
    (kept_in c.args.words.now) (kept_in c.loop-left.words) (kept_in c.put_field.new.words) alike c.in_err-put_field.ensures.err c.loop-left.invariant.1)

pub returns-clause-ok : goal.returns-clause-ok
returns-clause-ok c =
    c.loop-left.invariant.0 (kept_in c.loop-left.words)
    (no_change (with_position c.args.position) (some_has c.loop-left.left.now) (kept_in c.loop-left.words) (kept_in c.loop-left.words) (fields_over c.loop-left.left.now (omega (arith, c.in_default.len_below))) (λ g s. refl))
