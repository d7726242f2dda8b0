use Rattle.std.proofs.Common.{◌≡◌, ◌++◌, ◌∷◌, [], true, false, List, map, Ok, ap, sym, subst, ◌∙◌, arith, rules}
use Rattle.std.proofs.lemmas.Result.{err_from_is_err_and}
use Rattle.gl_rulelang.specs.declared.rule.Action.{Action}
use Rattle.gl_rulelang.specs.declared.token.Sign.TheVariants as signs
use Rattle.gl_rulelang.specs.Tree.{action_of}
use Rattle.gl_rulelang.specs.Tokens.{Tokens, left}
use Rattle.gl_rulelang.specs.Rules.{is_at}
use Rattle.gl_rulelang.proofs.Steps.{StepsSoFar, steps_more, steps_fewer, steps_fail, steps_end}
use Rattle.gl_rulelang.proofs.read.actions.Goals as goal

pub returns-in_err-action : goal.returns-in_err-action
returns-in_err-action c =
    let ts = left c.loop-alloc.cursor in
    let no_end : is_at signs.End ts ≡ false = grind arith in
    let e = c.in_err-action.field-0.0 in
    let q = err_from_is_err_and c.from_residual.result c.from_residual.ensures.1 in
    rw (q.1, q.2) (steps_fail (left c.args.cursor.now) c.loop-alloc.actions.items ts e c.loop-alloc.invariant no_end c.in_err-action.ensures)

pub loop-alloc-smaller : goal.loop-alloc-smaller
loop-alloc-smaller c = steps_fewer (left c.loop-alloc.cursor) (action_of c.in_ok-action.field-0, left c.action.new.cursor) c.in_ok-action.ensures

pub loop-alloc-preserved : goal.loop-alloc-preserved
loop-alloc-preserved c =
    let ts = left c.loop-alloc.cursor in
    let no_end : is_at signs.End ts ≡ false = grind arith in
    let pushed : c.push.new.self.items ≡ c.loop-alloc.actions.items ++ c.in_ok-action.field-0 ∷ [] = search rules in
    subst (λ (done : List Action). StepsSoFar (left c.args.cursor.now) done (left c.action.new.cursor)) (sym pushed)
    (steps_more (left c.args.cursor.now) c.loop-alloc.actions.items ts c.in_ok-action.field-0 (left c.action.new.cursor) c.loop-alloc.invariant no_end c.in_ok-action.ensures)

pub returns : goal.returns
returns c =
    let ts = left c.loop-alloc.cursor in
    let at_end : is_at signs.End ts ≡ true = grind arith in
    steps_end (left c.args.cursor.now) c.loop-alloc.actions.items ts c.loop-alloc.invariant at_end
    ∙ ap (λ (x : Tokens). Ok (map action_of c.loop-alloc.actions.items, x)) (sym c.advance.ensures)
