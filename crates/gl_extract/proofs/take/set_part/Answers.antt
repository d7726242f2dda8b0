use Rattle.std.proofs.Common.{◌≡◌, ◌∙◌, ℕ, List, Option, ap, sym, subst, refl}
use Rattle.gl_fields.specs.declared.value.Value.{Value}
use Rattle.gl_fields.specs.declared.value.Value.TheVariants.{Text}
use Rattle.gl_extract.specs.declared.parts.Converter.{Converter}
use Rattle.gl_extract.specs.Converting.{converted_by}
use Rattle.gl_extract.specs.Extraction.{set_or_left, part_given, part_of, target_field, AreBegun}
use Rattle.gl_extract.proofs.Sets.{at_err, begun_none, begun_one}
use Rattle.gl_extract.proofs.take.set_part.Goals as goal

pub returns-in_err-part-clause-err : goal.returns-in_err-part-clause-err
returns-in_err-part-clause-err c =
    at_err c.from_residual.result (begun_none (part_given c.args.parts.now c.args.target.now c.args.text.now c.args.span) c.args.fields.now c.args.fields.now refl)

pub returns-in_err-value-clause-err : goal.returns-in_err-value-clause-err
returns-in_err-value-clause-err c =
    at_err c.from_residual-in_err-value.result (begun_none (part_given c.args.parts.now c.args.target.now c.args.text.now c.args.span) c.args.fields.now c.args.fields.now refl)

pub returns-in_err-set_or_leave-clause-err : goal.returns-in_err-set_or_leave-clause-err
returns-in_err-set_or_leave-clause-err c =
    at_err c.from_residual-in_err-set_or_leave.result
    (begun_none (part_given c.args.parts.now c.args.target.now c.args.text.now c.args.span) c.args.fields.now c.set_or_leave.new.fields c.in_err-set_or_leave.ensures.err)

pub returns-in_err-cut-clause-err : goal.returns-in_err-cut-clause-err
returns-in_err-cut-clause-err c =
    let value : c.in_ok-value.value ≡ converted_by c.args.parts.now.converters (Text (part_of c.args.text.now (c.in-Some.from, c.in-Some.to))) =
    c.in_ok-value.ensures ∙ ap (λ (cs : List Converter). converted_by cs (Text c.in_ok-part.part)) c.as_slice.ensures
    ∙ ap (λ (t : List ℕ). converted_by c.args.parts.now.converters (Text t)) (c.in_ok-part.ensures ∙ c.range.ensures.value) in
    let set : c.cut.new.fields ≡ set_or_left (target_field c.args.parts.now c.args.target.now (part_of c.args.text.now (c.in-Some.from, c.in-Some.to))) c.args.fields.now =
    c.in_err-cut.ensures.err ∙ c.in_ok-set_or_leave.ensures.fields ∙ ap (λ (v : Value). set_or_left (record { name = c.args.target.now; value = v }) c.args.fields.now) value in
    at_err c.from_residual-in_err-cut.result
    (subst (λ (s : Option (ℕ × ℕ)). AreBegun (part_given c.args.parts.now c.args.target.now c.args.text.now s) c.args.fields.now c.cut.new.fields) (sym c.in-Some.is)
    (begun_one (target_field c.args.parts.now c.args.target.now (part_of c.args.text.now (c.in-Some.from, c.in-Some.to))) c.args.fields.now c.cut.new.fields set))
