-- What a rule without a fault has at each of its nodes.
use Rattle.std.proofs.Common.{◌≡◌, ℕ, ◌+◌, List, [], ◌∷◌, ◌++◌, Bool, true, false, refl, sym, ap, ◌∙◌}
use Rattle.std.specs.Prelude.{⊤, Option, Some, None, is_some, filter_map, if◌then◌else◌, ◌||◌, not}
use Rattle.std.specs.List.{list_any, enumerate_from, slice_get, cons_option}
use Rattle.gl_rulelang.specs.Tree.{Tree, text, whole, boolean, field, variable, unary, binary, call, Arguments, none, argument, Step, assign, perform, RuleTree}
use Rattle.gl_check.specs.declared.function.Function.{Function}
use Rattle.gl_check.specs.declared.refusal.CheckRefusal.{CheckRefusal}
use Rattle.gl_check.specs.declared.stand.Stand.{Stand}
use Rattle.gl_check.specs.declared.stand.Stand.TheVariants as stands
use Rattle.gl_check.specs.Functions.{row_of, function_named}
use Rattle.gl_check.specs.Arguments.{names_in, are_fitting, in_places}
use Rattle.gl_check.specs.Checking.{Kinds, kind_of, Node, node, nodes_of, argument_nodes, step_nodes, steps_nodes, known_behind, rule_nodes, is_unknown_function, is_misplaced, lacks_pattern, has_bad_arguments, is_badly_called, takes_wrong, is_wrong_condition, is_unknown_variable, fault_at, faults_from, first_fault, patterns_for}
use Rattle.gl_eval.specs.Patterns.{HasPatterns, HavePatterns, HasStrings, StepHasPatterns, StepsHavePatterns}
use Rattle.gl_eval.proofs.Taking.{none_taken}

-- a node without a fault
pub record IsSound (n : Node) : Type 0 where
  pub known_function : is_unknown_function n.tree ≡ false
  pub well_called : is_badly_called n.stand n.tree ≡ false
  pub well_typed : (takes_wrong n.known n.tree || is_wrong_condition n.stand (kind_of n.known n.tree)) ≡ false
  pub known_variable : is_unknown_variable n.known n.tree ≡ false

abbrev pub AreSound : List Node → Type 0
AreSound [] = ⊤
AreSound (n ∷ nodes) = IsSound n × AreSound nodes

not_this : (b : Bool) (x : CheckRefusal) (o : Option CheckRefusal) → (if b then Some x else o) ≡ None → (b ≡ false) × (o ≡ None)
not_this true x o e = absurd (cc)
not_this false x o e = (refl, e)

sound_node : (k : ℕ) (n : Node) → fault_at (k, n) ≡ None → IsSound n
sound_node k n e =
    let first = not_this (is_unknown_function n.tree) _ _ e in
    let second = not_this (is_badly_called n.stand n.tree) _ _ first.1 in
    let third = not_this (takes_wrong n.known n.tree || is_wrong_condition n.stand (kind_of n.known n.tree)) _ _ second.1 in
    let fourth = not_this (is_unknown_variable n.known n.tree) _ _ third.1 in
    record { known_function = first.0; well_called = second.0; well_typed = third.0; known_variable = fourth.0 }

head_none : (o : Option CheckRefusal) (rest : List CheckRefusal) → cons_option o rest ≡ [] → (o ≡ None) × (rest ≡ [])
head_none None rest e = (refl, e)
head_none (Some x) rest e = absurd (cc)

pub all_sound : (k : ℕ) (nodes : List Node) → faults_from k nodes ≡ [] → AreSound nodes
all_sound k [] e = tt
all_sound k (n ∷ nodes) e =
    let both = head_none (fault_at (k, n)) (faults_from (k + 1) nodes) e in
    (sound_node k n both.0, all_sound (k + 1) nodes both.1)

none_first : (faults : List CheckRefusal) → slice_get faults 0 ≡ None → faults ≡ []
none_first [] e = refl
none_first (x ∷ faults) e = absurd (cc)

pub rule_sound : (rule : RuleTree) → first_fault rule ≡ None → AreSound (rule_nodes rule)
unfolding first_fault
rule_sound rule e = all_sound 0 (rule_nodes rule) (none_first (faults_from 0 (rule_nodes rule)) e)

pub front_sound : (xs ys : List Node) → AreSound (xs ++ ys) → AreSound xs
front_sound [] ys h = tt
front_sound (x ∷ xs) ys h = (h.0, front_sound xs ys h.1)

pub rest_sound : (xs ys : List Node) → AreSound (xs ++ ys) → AreSound ys
rest_sound [] ys h = h
rest_sound (x ∷ xs) ys h = rest_sound xs ys h.1

-- The patterns of a tree.

last_of_three : (a b c : Bool) → (a || b || c) ≡ false → c ≡ false
last_of_three true b c e = absurd (cc)
last_of_three false true c e = absurd (cc)
last_of_three false false c e = e

has_strings : (stand : Stand) (given : Arguments) (function : Option Function) → has_bad_arguments stand given function ≡ false → HasStrings given function
has_strings stand given None e = tt
has_strings stand given (Some f) e =
    last_of_three (not (are_fitting (row_of f).parameters (names_in given))) (is_misplaced stand (row_of f).gives) (list_any (lacks_pattern given) (in_places (row_of f).parameters)) e

mutual
  pub tree_has : (stand : Stand) (known : Kinds) (e : Tree) → AreSound (nodes_of stand known e) → HasPatterns e
  tree_has stand known (text s) h = tt
  tree_has stand known (whole n) h = tt
  tree_has stand known (boolean b) h = tt
  tree_has stand known (field f) h = tt
  tree_has stand known (variable x) h = tt
  tree_has stand known (unary sign e) h = tree_has stands.Operand known e (front_sound (nodes_of stands.Operand known e) _ h)
  tree_has stand known (binary sign a b) h = (
    tree_has stands.Operand known a (front_sound (nodes_of stands.Operand known a) _ h),
    tree_has stands.Operand known b (front_sound (nodes_of stands.Operand known b) _ (rest_sound (nodes_of stands.Operand known a) _ h)),
  )
  tree_has stand known (call f given) h = (
    arguments_have known given (front_sound (argument_nodes known given) _ h),
    has_strings stand given (function_named f) (rest_sound (argument_nodes known given) _ h).0.well_called,
  )

  pub arguments_have : (known : Kinds) (given : Arguments) → AreSound (argument_nodes known given) → HavePatterns given
  arguments_have known none h = tt
  arguments_have known (argument name e more) h = (
    tree_has stands.Operand known e (front_sound (nodes_of stands.Operand known e) _ h),
    arguments_have known more (rest_sound (nodes_of stands.Operand known e) _ h),
  )

pub middle_of_three : (a b c : Bool) → (a || b || c) ≡ false → b ≡ false
middle_of_three true b c e = absurd (cc)
middle_of_three false true c e = absurd (cc)
middle_of_three false false c e = refl

no_pattern : (given : Arguments) (function : Option Function) → has_bad_arguments stands.Action given function ≡ false → patterns_for given function ≡ []
no_pattern given None e = refl
no_pattern given (Some f) e =
    none_taken given f (middle_of_three (not (are_fitting (row_of f).parameters (names_in given))) (is_some (row_of f).gives) (list_any (lacks_pattern given) (in_places (row_of f).parameters)) e)

step_has : (known : Kinds) (step : Step) → AreSound (step_nodes known step) → StepHasPatterns step
step_has known (assign x e) h = tree_has stands.Operand known e h
step_has known (perform f given) h = (
  arguments_have known given (front_sound (argument_nodes known given) _ h),
  no_pattern given (function_named f) (rest_sound (argument_nodes known given) _ h).0.well_called,
)

steps_have : (known : Kinds) (steps : List Step) → AreSound (steps_nodes known steps) → StepsHavePatterns steps
steps_have known [] h = tt
steps_have known (step ∷ steps) h =
    (step_has known step (front_sound (step_nodes known step) _ h), steps_have (known_behind known step) steps (rest_sound (step_nodes known step) _ h))

pub condition_has : (rule : RuleTree) → first_fault rule ≡ None → HasPatterns rule.condition
condition_has rule e = tree_has stands.Condition [] rule.condition (front_sound (nodes_of stands.Condition [] rule.condition) _ (rule_sound rule e))

pub actions_have : (rule : RuleTree) → first_fault rule ≡ None → StepsHavePatterns rule.steps
actions_have rule e = steps_have [] rule.steps (rest_sound (nodes_of stands.Condition [] rule.condition) _ (rule_sound rule e))
