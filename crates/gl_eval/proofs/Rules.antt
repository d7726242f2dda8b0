-- The patterns of a whole rule.
use Rattle.std.proofs.Common.{◌≡◌, ℕ, ◌+◌, ◌≤◌, List, [], ◌∷◌, ◌++◌, length, map, refl, sym, ap, ◌∙◌, subst, arith}
use Rattle.std.specs.Prelude.{None}
use Rattle.std.specs.List.{flat_map}
use Rattle.std.proofs.lemmas.List.{length-append}
use Rattle.gl_rulelang.specs.declared.rule.Rule.{Rule}
use Rattle.gl_rulelang.specs.declared.rule.Action.{Action}
use Rattle.gl_functions.specs.Worlds.{Known}
use Rattle.gl_eval.specs.declared.staged.Staged.{Staged}
use Rattle.gl_eval.specs.Actions.{course_behind, acted}
use Rattle.gl_rulelang.specs.Tree.{RuleTree, tree_of, action_of, rule_of}
use Rattle.gl_check.specs.Checking.{patterns_of, step_patterns, pattern_texts, first_fault}
use Rattle.gl_eval.specs.Patterns.{StandAt, HasPatterns, StepsHavePatterns}
use Rattle.gl_eval.proofs.Standing.{first_stand, second_stand, all_stand}
use Rattle.gl_eval.proofs.Sound.{condition_has, actions_have}

all_texts : (rule : RuleTree) (ps : List (List ℕ)) → ps ≡ pattern_texts rule → StandAt 0 (patterns_of rule.condition ++ flat_map step_patterns rule.steps) ps
unfolding pattern_texts
all_texts rule ps e = subst (λ (xs : List (List ℕ)). StandAt 0 xs ps) e (all_stand ps)

pub condition_stands : (r : Rule) (rule : RuleTree) (ps : List (List ℕ)) → rule_of r ≡ rule → ps ≡ pattern_texts rule → StandAt 0 (patterns_of (tree_of r.condition)) ps
condition_stands r rule ps same e =
    subst (λ (x : RuleTree). StandAt 0 (patterns_of x.condition) ps) (sym same) (first_stand 0 (patterns_of rule.condition) (flat_map step_patterns rule.steps) ps (all_texts rule ps e))

pub actions_stand : (r : Rule) (rule : RuleTree) (ps : List (List ℕ)) → rule_of r ≡ rule → ps ≡ pattern_texts rule
    → StandAt (length (patterns_of (tree_of r.condition))) (flat_map step_patterns (map action_of r.actions.items)) ps
actions_stand r rule ps same e =
    let front : 0 + length (patterns_of rule.condition) ≡ length (patterns_of rule.condition) = omega arith in
    subst (λ (x : RuleTree). StandAt (length (patterns_of x.condition)) (flat_map step_patterns x.steps) ps) (sym same)
    (subst (λ (n : ℕ). StandAt n (flat_map step_patterns rule.steps) ps) front
    (second_stand 0 (patterns_of rule.condition) (flat_map step_patterns rule.steps) ps (all_texts rule ps e)))

pub condition_within : (r : Rule) (rule : RuleTree) (ps : List (List ℕ)) → rule_of r ≡ rule → ps ≡ pattern_texts rule → length (patterns_of (tree_of r.condition)) ≤ length ps
unfolding pattern_texts
condition_within r rule ps same e =
    let there : length ps ≡ length (patterns_of rule.condition) + length (flat_map step_patterns rule.steps) = ap length e ∙ length-append (patterns_of rule.condition) (flat_map step_patterns rule.steps) in
    let here : length (patterns_of (tree_of r.condition)) ≡ length (patterns_of rule.condition) = ap (λ (x : RuleTree). length (patterns_of x.condition)) same in
    omega (arith, there, here)

pub condition_lawful : (r : Rule) (rule : RuleTree) → rule_of r ≡ rule → first_fault rule ≡ None → HasPatterns (tree_of r.condition)
condition_lawful r rule same e = subst (λ (x : RuleTree). HasPatterns x.condition) (sym same) (condition_has rule e)

pub actions_lawful : (r : Rule) (rule : RuleTree) → rule_of r ≡ rule → first_fault rule ≡ None → StepsHavePatterns (map action_of r.actions.items)
actions_lawful r rule same e = subst (λ (x : RuleTree). StepsHavePatterns x.steps) (sym same) (actions_have rule e)

pub acted_by : (world : Known) (r : Rule) (rule : RuleTree) (xs : List Action) (m : Staged) → rule_of r ≡ rule → xs ≡ r.actions.items
    → (course_behind world (map action_of xs) m).message ≡ acted world rule m
unfolding acted
acted_by world r rule xs m same is =
    ap (λ (ys : List Action). (course_behind world (map action_of ys) m).message) is ∙ ap (λ (x : RuleTree). (course_behind world x.steps m).message) same
