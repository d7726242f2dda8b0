use Rattle.std.proofs.Common.{◌∙◌, ℕ, Option, [], refl, ap}
use Rattle.gl_extract.specs.Extraction.{group_fields, group_field, set_all}
use Rattle.gl_extract.proofs.Sets.{at_err, begun_none, begun_still, group_begun, groups_ended}
use Rattle.gl_extract.proofs.groups.set_groups.Goals as goal

pub returns-in_err-spans-clause-err : goal.returns-in_err-spans-clause-err
returns-in_err-spans-clause-err c = at_err c.from_residual.result (begun_none (group_fields c.args.pattern.now c.args.text.now 0 c.args.names.now) c.args.fields.now c.args.fields.now refl)

pub loop-number-init : goal.loop-number-init
loop-number-init c = record { done = []; all = refl; set = refl }

pub loop-number-preserved : goal.loop-number-preserved
loop-number-preserved c =
    group_begun c.args.pattern.now c.spans_of.new.pattern c.args.text.now (group_fields c.args.pattern.now c.args.text.now 0 c.args.names.now) c.loop-number.number c.args.names.now c.index-names-number.result c.as_str.result.now
    c.args.fields.now c.loop-number.fields c.set_span.new.fields c.loop-number-test.true c.index-names-number.is c.loop-number.invariant c.in_ok-spans.ensures.same c.as_str.ensures
    (c.in_ok-set_span.ensures.fields ∙ ap (λ (s : Option (ℕ × ℕ)). set_all (group_field c.as_str.result.now c.args.text.now s) c.loop-number.fields) c.in_ok-span.ensures.value)

pub returns-in_err-span-clause-err : goal.returns-in_err-span-clause-err
returns-in_err-span-clause-err c =
    at_err c.from_residual-in_err-span.result
    (begun_still (group_fields c.args.pattern.now c.args.text.now 0 c.args.names.now) _ c.args.fields.now c.loop-number.fields c.loop-number.fields c.loop-number.invariant refl)

pub returns-in_err-set_span-clause-err : goal.returns-in_err-set_span-clause-err
returns-in_err-set_span-clause-err c =
    at_err c.from_residual-in_err-set_span.result
    (begun_still (group_fields c.args.pattern.now c.args.text.now 0 c.args.names.now) _ c.args.fields.now c.loop-number.fields c.set_span.new.fields c.loop-number.invariant c.in_err-set_span.ensures.err)

pub returns-clause-fields : goal.returns-clause-fields
returns-clause-fields c =
    groups_ended c.args.pattern.now c.args.text.now c.loop-number.number c.args.names.now (group_fields c.args.pattern.now c.args.text.now 0 c.args.names.now) c.args.fields.now c.loop-number.fields
    c.loop-number-test.false c.loop-number.invariant
