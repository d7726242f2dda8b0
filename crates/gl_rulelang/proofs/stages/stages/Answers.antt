use Rattle.std.proofs.Common.{◌≡◌, true, false, List, Ok, ap, sym, subst, ◌∙◌, rules, arith}
use Rattle.std.proofs.lemmas.Result.{err_from_is_err_and}
use Rattle.gl_rulelang.specs.declared.token.Sign.TheVariants as signs
use Rattle.gl_rulelang.specs.declared.pipeline.Stage.{Stage}
use Rattle.gl_rulelang.specs.Tokens.{Tokens, left}
use Rattle.gl_rulelang.specs.Rules.{is_at}
use Rattle.gl_rulelang.specs.Pipelines.{with_stage, stage_at}
use Rattle.gl_rulelang.proofs.StageSteps.{StagesSoFar, stages_more, stages_fewer, stages_fail, stages_end}
use Rattle.gl_rulelang.proofs.stages.stages.Goals as goal

pub returns-in_err-stage : goal.returns-in_err-stage
returns-in_err-stage c =
    let ts = left c.loop-alloc.cursor in
    let no_end : is_at signs.End ts ≡ false = grind arith in
    let e = c.in_err-stage.field-0.0 in
    let q = err_from_is_err_and c.from_residual.result c.from_residual.ensures.1 in
    rw (q.1, q.2) (stages_fail (left c.args.cursor.now) c.loop-alloc.stages.items ts e c.loop-alloc.invariant no_end (grind (arith, c.in_err-stage.ensures)))

pub loop-alloc-preserved : goal.loop-alloc-preserved
loop-alloc-preserved c =
    let ts = left c.loop-alloc.cursor in
    let no_end : is_at signs.End ts ≡ false = grind arith in
    let read : stage_at c.loop-alloc.stages.items ts ≡ Ok (c.in_ok-stage.stage, left c.stage.new.cursor) = grind (arith, c.in_ok-stage.ensures) in
    let put : c.insert.new.stages.items ≡ with_stage c.loop-alloc.stages.items c.in_ok-stage.stage = search rules in
    subst (λ (done : List Stage). StagesSoFar (left c.args.cursor.now) done (left c.stage.new.cursor)) (sym put)
    (stages_more (left c.args.cursor.now) c.loop-alloc.stages.items ts c.in_ok-stage.stage (left c.stage.new.cursor) c.loop-alloc.invariant no_end read)

pub loop-alloc-smaller : goal.loop-alloc-smaller
loop-alloc-smaller c =
    let read : stage_at c.loop-alloc.stages.items (left c.loop-alloc.cursor) ≡ Ok (c.in_ok-stage.stage, left c.stage.new.cursor) = grind (arith, c.in_ok-stage.ensures) in
    stages_fewer c.loop-alloc.stages.items (left c.loop-alloc.cursor) (c.in_ok-stage.stage, left c.stage.new.cursor) read

pub returns : goal.returns
returns c =
    let ts = left c.loop-alloc.cursor in
    let at_end : is_at signs.End ts ≡ true = grind arith in
    stages_end (left c.args.cursor.now) c.loop-alloc.stages.items ts c.loop-alloc.invariant at_end
    ∙ ap (λ (x : Tokens). Ok (c.loop-alloc.stages.items, x)) (sym c.advance.ensures)
