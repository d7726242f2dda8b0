use Rattle.std.proofs.Common.{◌∙◌, List, map, refl, ap, sym}
use Rattle.std.specs.Prelude.{String}
use Rattle.std.specs.declared.alloc.Global.{Global}
use Rattle.std.proofs.lemmas.List.{map-id}
use Rattle.std.proofs.lemmas.Iterator.Adapters.{YieldsList-from_vec}
use Rattle.std.proofs.lemmas.Iterator.Consumers.{YieldsList-end, YieldsList-so_far}
use Rattle.gl_fields.specs.declared.field.Field.{Field}
use Rattle.gl_fields.specs.declared.value.Value.{Value}
use Rattle.gl_extract.specs.Extraction.{set_all}
use Rattle.gl_extract.specs.Objects.{object_fields}
use Rattle.gl_extract.specs.Views.{field_of_pair}
use Rattle.gl_extract.proofs.Sets.{at_err, begun_none, pair_set, pairs_begun}
use Rattle.gl_extract.proofs.set_many.set_object.Goals as goal

pub loop-name-preserved : goal.loop-name-preserved
loop-name-preserved c =
    pair_set c.loop-name.yielded (c.in-Some.name, c.in-Some.value) c.as_str.result.now c.args.fields.now c.loop-name.fields c.set_or_leave.new.fields
    c.as_str.ensures.value c.loop-name.invariant c.in_ok-set_or_leave.ensures.fields

pub returns-clause-fields : goal.returns-clause-fields
returns-clause-fields c =
    let from = c.into_iter-name-iterator.ensures.into_iter_gives in
    let seen = YieldsList-end (YieldsList-from_vec {s = c.into_iter-name-iterator.result} c.in_ok-items.items.items from.0 (from.1 ∙ c.in_ok-items.items.ok.0))
    c.loop-name.yielded c.loop-name.name-iterator c.loop-name.yielded_by c.next.result c.next.new.self c.in-None.is c.next.ensures.steps in
    c.loop-name.invariant
    ∙ ap (λ (ps : List (String Global × Value)). set_all (map field_of_pair ps) c.args.fields.now) (sym (map-id c.loop-name.yielded) ∙ seen.0)
    ∙ ap (λ (l : List Field). set_all l c.args.fields.now) c.in_ok-items.ensures

pub returns-in_err-name-items-clause-err : goal.returns-in_err-name-items-clause-err
returns-in_err-name-items-clause-err c = at_err c.from_residual.result (begun_none (object_fields c.args.text.now) c.args.fields.now c.args.fields.now refl)

pub returns-in_err-set_or_leave-clause-err : goal.returns-in_err-set_or_leave-clause-err
returns-in_err-set_or_leave-clause-err c =
    let from = c.into_iter-name-iterator.ensures.into_iter_gives in
    let seen = YieldsList-so_far (YieldsList-from_vec {s = c.into_iter-name-iterator.result} c.in_ok-items.items.items from.0 (from.1 ∙ c.in_ok-items.items.ok.0))
    c.loop-name.yielded c.loop-name.name-iterator c.loop-name.yielded_by in
    at_err c.from_residual-in_err-set_or_leave.result
    (pairs_begun c.in_ok-items.items.items c.loop-name.yielded (object_fields c.args.text.now) c.args.fields.now c.loop-name.fields c.set_or_leave.new.fields
    seen c.in_ok-items.ensures c.loop-name.invariant c.in_err-set_or_leave.ensures.err)
