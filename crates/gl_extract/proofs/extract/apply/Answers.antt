use Rattle.std.proofs.Common.{◌≡◌, ℕ, List, Option, ap}
use Rattle.gl_extract.specs.declared.built.Built.{Built}
use Rattle.gl_extract.proofs.Sets.{at_err, begun_of, none_begun}
use Rattle.gl_extract.proofs.extract.apply.Goals as goal

pub returns-in_err-text-clause-err : goal.returns-in_err-text-clause-err
returns-in_err-text-clause-err c = at_err c.from_residual.result (none_begun c.args.extractor.now c.args.built.now c.args.fields.now)

pub returns-in_err-is_met-clause-err : goal.returns-in_err-is_met-clause-err
returns-in_err-is_met-clause-err c = at_err c.from_residual-in_err-is_met.result (none_begun c.args.extractor.now c.args.built.now c.args.fields.now)

pub returns-in_err-take-clause-err : goal.returns-in_err-take-clause-err
returns-in_err-take-clause-err c =
    let built : (let b : Built = record { pattern = c.args.built.now.pattern; condition = c.is_met.new.built; names = c.args.built.now.names } in b) ≡ c.args.built.now =
    ap (λ (o : Option (List ℕ)). let b : Built = record { pattern = c.args.built.now.pattern; condition = o; names = c.args.built.now.names } in b) c.in_ok-is_met.ensures.same in
    at_err c.from_residual-in_err-take.result
    (begun_of c.args.extractor.now c.parts-parts.result.now c.args.built.now (record { pattern = c.args.built.now.pattern; condition = c.is_met.new.built; names = c.args.built.now.names })
    c.as_str.result.now c.in-Some.text c.as_str-then-branch.result.now c.in_ok-text.field-0 c.args.fields.now c.take.new.fields
    c.parts-parts.ensures.value built c.as_str.ensures c.as_str-then-branch.ensures c.in_ok-text.ensures c.in-Some.is c.in_err-take.ensures.err)
