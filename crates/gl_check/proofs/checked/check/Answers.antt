use Rattle.std.proofs.Common.{◌≡◌, ℕ, [], List, None, Result, Ok, Err, map, sym, ap, subst}
use Rattle.std.proofs.lemmas.Result.{err_from_is_err_and}
use Rattle.gl_rulelang.specs.declared.rule.Action.{Action}
use Rattle.gl_rulelang.specs.declared.rule.Rule.{Rule}
use Rattle.gl_rulelang.specs.Tree.{action_of, rule_of}
use Rattle.gl_check.specs.declared.refusal.CheckRefusal.{CheckRefusal}
use Rattle.gl_check.specs.declared.stand.Stand.TheVariants.{Condition}
use Rattle.gl_check.specs.Checking.{nodes_of, steps_nodes, rule_nodes, first_fault, Walks}
use Rattle.gl_check.proofs.Walks.{on, stopped, no_fault, is_refused}
use Rattle.gl_check.proofs.checked.check.Goals as goal

-- a walk over the condition and one over the actions are one over the rule
whole : (rule : Rule) (actions : List Action) (next : ℕ) (r : Result ℕ CheckRefusal) → actions ≡ rule.actions.items
    → Walks 0 (nodes_of Condition [] (rule_of rule).condition) (Ok next) → Walks next (steps_nodes [] (map action_of actions)) r → Walks 0 (rule_nodes (rule_of rule)) r
whole rule actions next r same first more =
    on 0 next (nodes_of Condition [] (rule_of rule).condition) (steps_nodes [] (rule_of rule).steps) r first
    (subst (λ (l : List Action). Walks next (steps_nodes [] (map action_of l)) r) same more)

pub returns-in_err-next : goal.returns-in_err-next
returns-in_err-next c =
    let rule = rule_of c.args.rule in
    let p = err_from_is_err_and c.from_residual.result c.from_residual.ensures.1 in
    rw (p.1, p.2)
    (is_refused rule c.in_err-next.field-0.0 (stopped 0 (nodes_of Condition [] rule.condition) (steps_nodes [] rule.steps) c.in_err-next.field-0.0 c.in_err-next.ensures))

pub returns-in_err-walk_steps : goal.returns-in_err-walk_steps
returns-in_err-walk_steps c =
    let p = err_from_is_err_and c.from_residual-in_err-walk_steps.result c.from_residual-in_err-walk_steps.ensures.1 in
    rw (p.1, p.2)
    (is_refused (rule_of c.args.rule) c.in_err-walk_steps.field-0.0
    (whole c.args.rule c.deref.result.now c.in_ok-next.next (Err c.in_err-walk_steps.field-0.0) c.deref.ensures.value c.in_ok-next.ensures c.in_err-walk_steps.ensures))

pub invariant_of-result : goal.invariant_of-result
invariant_of-result c =
    subst (λ (r : Rule). first_fault (rule_of r) ≡ None) (sym c.in_ok-new.ensures)
    (no_fault (rule_of c.args.rule) c.in_ok-walk_steps.field-0
    (whole c.args.rule c.deref.result.now c.in_ok-next.next (Ok c.in_ok-walk_steps.field-0) c.deref.ensures.value c.in_ok-next.ensures c.in_ok-walk_steps.ensures))

pub returns : goal.returns
returns c = (
  no_fault (rule_of c.args.rule) c.in_ok-walk_steps.field-0
      (whole c.args.rule c.deref.result.now c.in_ok-next.next (Ok c.in_ok-walk_steps.field-0) c.deref.ensures.value c.in_ok-next.ensures c.in_ok-walk_steps.ensures),
  ap rule_of c.in_ok-new.ensures,
)
