use Rattle.std.proofs.Common.{rules, ◌≡◌, ◌+◌, ◌<◌, ℕ, List, map, length, sym, ap, ◌∙◌, subst, arith}
use Rattle.std.proofs.lemmas.Result.{on_ok_weaker}
use Rattle.gl_rulelang.specs.Tree.{tree_of, action_of, rule_of, RuleTree}
use Rattle.gl_check.specs.Checking.{patterns_of, step_patterns}
use Rattle.std.specs.List.{flat_map}
use Rattle.gl_functions.specs.Worlds.{known_of}
use Rattle.gl_eval.specs.Patterns.{StandAt, StepsHavePatterns}
use Rattle.gl_eval.proofs.Rules.{condition_lawful, condition_within, actions_lawful, actions_stand, acted_by}
use Rattle.gl_eval.proofs.acting.act.Goals as goal

pub past-row-requires-clause-lawful : goal.past-row-requires-clause-lawful
past-row-requires-clause-lawful c = condition_lawful c.rule-rule.result.now c.args.rule.now c.rule-rule.ensures.value c.rule-rule.ensures.lawful

pub past-row-requires-clause-room : goal.past-row-requires-clause-room
past-row-requires-clause-room c =
    let within = condition_within c.rule-rule.result.now c.args.rule.now c.patterns.inside.row.patterns.items c.rule-rule.ensures.value (c.patterns.view_is ∙ c.requires) in
    omega (arith, within, c.patterns.inside.row.patterns.ok, c.patterns.inside.row.patterns.small)

pub steps-requires-clause-lawful : goal.steps-requires-clause-lawful
steps-requires-clause-lawful c =
    subst (λ xs. StepsHavePatterns (map action_of xs)) (sym c.deref.ensures.value) (actions_lawful c.rule-rule.result.now c.args.rule.now c.rule-rule.ensures.value c.rule-rule.ensures.lawful)

pub steps-requires-clause-patterns : goal.steps-requires-clause-patterns
steps-requires-clause-patterns c =
    let front : c.past-row.result ≡ length (patterns_of (tree_of c.rule-rule.result.now.condition)) = omega (arith, c.past-row.ensures) in
    subst (λ (n : ℕ). StandAt n (flat_map step_patterns (map action_of c.deref.result.now)) c.patterns.inside.row.patterns.items) (sym front)
    (subst (λ xs. StandAt (length (patterns_of (tree_of c.rule-rule.result.now.condition))) (flat_map step_patterns (map action_of xs)) c.patterns.inside.row.patterns.items) (sym c.deref.ensures.value)
    (actions_stand c.rule-rule.result.now c.args.rule.now c.patterns.inside.row.patterns.items c.rule-rule.ensures.value (c.patterns.view_is ∙ c.requires)))

pub returns-clause-done : goal.returns-clause-done
returns-clause-done c =
    on_ok_weaker c.steps.result (λ done. done ∙ acted_by (known_of c.args.world.now) c.rule-rule.result.now c.args.rule.now c.deref.result.now c.args.state.now c.rule-rule.ensures.value c.deref.ensures.value) c.steps.ensures.done
