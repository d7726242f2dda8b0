use Rattle.std.proofs.Common.{ℕ, Ok, Err, reverse, arith}
use Rattle.std.proofs.lemmas.Result.{err_from_is_err_and}
use Rattle.gl_check.proofs.Walks.{steps_on, steps_stop, steps_end}
use Rattle.gl_check.proofs.walk.walk_steps.Goals as goal

pub returns : goal.returns
returns c =
    c.loop-action.invariant (Ok c.loop-action.next)
    (steps_end (reverse c.loop-action.known.items) c.args.actions.now c.loop-action.action-index c.loop-action.next (omega arith))

pub returns-in_err-next : goal.returns-in_err-next
returns-in_err-next c =
    let p = err_from_is_err_and c.from_residual.result c.from_residual.ensures.1 in
    rw (p.1, p.2)
    (c.loop-action.invariant (Err c.in_err-next.field-0.0)
    (steps_stop (reverse c.loop-action.known.items) c.args.actions.now c.loop-action.action-index c.action-item.result (omega arith) c.action-item.is
    c.loop-action.next c.in_err-next.field-0.0 c.in_err-next.ensures.walks))

pub loop-action-preserved : goal.loop-action-preserved
loop-action-preserved c = λ r h.
    c.loop-action.invariant r
    (steps_on (reverse c.loop-action.known.items) c.args.actions.now c.loop-action.action-index c.action-item.result (omega arith) c.action-item.is
    (reverse c.walk_step.new.known.items) c.loop-action.next c.in_ok-next.next r c.in_ok-next.ensures.known c.in_ok-next.ensures.walks h)
