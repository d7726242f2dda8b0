use Rattle.std.proofs.Common.{rules, ◌≡◌, ◌+◌, ℕ, List, ◌∷◌, drop, map, sym, ap, ◌∙◌, subst, arith}
use Rattle.std.proofs.lemmas.List.{drop_more}
use Rattle.gl_rulelang.specs.Tree.{action_of}
use Rattle.gl_functions.specs.Worlds.{known_of}
use Rattle.gl_eval.specs.Actions.{Course}
use Rattle.gl_eval.specs.Patterns.{StandAt}
use Rattle.gl_eval.specs.Scopes.{course_of}
use Rattle.gl_check.specs.Checking.{step_patterns}
use Rattle.std.specs.List.{flat_map}
use Rattle.gl_eval.proofs.Courses.{dropped_stays, course_more, steps_lawful, step_stands, steps_stand}
use Rattle.gl_eval.proofs.acting.steps.Goals as goal

pub returns-then-state-clause-done : goal.returns-then-state-clause-done
returns-then-state-clause-done c =
    ap (λ (d : Course). d.message)
    (sym (dropped_stays (known_of c.args.world.now) (map action_of (drop c.loop-action.action-index c.args.actions.now)) (course_of c.loop-action.state c.loop-action.variables.items) c.if-state.true)
    ∙ c.loop-action.invariant.course)

pub step-requires-clause-patterns : goal.step-requires-clause-patterns
step-requires-clause-patterns c =
    let xs = c.args.actions.now in
    let i = c.loop-action.action-index in
    let x = c.action-item.result in
    let here : drop i xs ≡ x ∷ drop (i + 1) xs = drop_more xs i x (omega arith) ∙ ap (λ y. y ∷ drop (i + 1) xs) (sym c.action-item.is) in
    step_stands c.loop-action.laid.next x (drop i xs) (drop (i + 1) xs) c.loop-action.laid.patterns.items here c.loop-action.invariant.patterns

pub loop-action-preserved : goal.loop-action-preserved
loop-action-preserved c =
    let xs = c.args.actions.now in
    let i = c.loop-action.action-index in
    let x = c.action-item.result in
    let here : drop i xs ≡ x ∷ drop (i + 1) xs = drop_more xs i x (omega arith) ∙ ap (λ y. y ∷ drop (i + 1) xs) (sym c.action-item.is) in
    let old = c.loop-action.laid.patterns.items in
    record {
      course = course_more (known_of c.args.world.now) (drop i xs) (drop (i + 1) xs) x (course_of c.loop-action.state c.loop-action.variables.items) (course_of c.step.new.state c.step.new.variables.items) _ here c.if-state.false c.in_ok-step.ensures.done c.loop-action.invariant.course;
      lawful = steps_lawful x (drop i xs) (drop (i + 1) xs) here c.loop-action.invariant.lawful;
      patterns =
          subst (λ ps. StandAt c.step.new.laid.next (flat_map step_patterns (map action_of (drop (i + 1) xs))) ps) (sym c.in_ok-step.ensures.same)
          (steps_stand c.loop-action.laid.next c.step.new.laid.next x (drop i xs) (drop (i + 1) xs) old here c.loop-action.invariant.patterns c.in_ok-step.ensures.next);
      same = c.in_ok-step.ensures.same ∙ c.loop-action.invariant.same;
    }
