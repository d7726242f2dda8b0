-- The course of a message through the actions that are left.
use Rattle.std.proofs.Common.{◌≡◌, ℕ, ◌+◌, List, [], ◌∷◌, ◌++◌, Bool, true, false, fold, map, length, drop, refl, sym, ap, ◌∙◌, subst}
use Rattle.std.specs.Prelude.{if◌then◌else◌}
use Rattle.std.specs.List.{flat_map}
use Rattle.gl_rulelang.specs.declared.rule.Action.{Action}
use Rattle.gl_rulelang.specs.Tree.{Step, action_of}
use Rattle.gl_check.specs.Checking.{step_patterns}
use Rattle.gl_functions.specs.Worlds.{Known}
use Rattle.gl_eval.specs.Actions.{Course, stepped, stepped_or_dropped}
use Rattle.gl_eval.specs.Patterns.{StandAt, StepHasPatterns, StepsHavePatterns}
use Rattle.gl_eval.proofs.Standing.{first_stand, second_stand}

if_true : {A : Type 0} (b : Bool) (x y : A) → b ≡ true → (if b then x else y) ≡ x
if_true true x y e = refl
if_true false x y e = absurd (cc)

if_false : {A : Type 0} (b : Bool) (x y : A) → b ≡ false → (if b then x else y) ≡ y
if_false true x y e = absurd (cc)
if_false false x y e = refl

-- behind a drop nothing is done
pub dropped_stays : (world : Known) (steps : List Step) (c : Course) → c.message.dropped ≡ true → fold (stepped_or_dropped world) c steps ≡ c
dropped_stays world [] c e = refl
dropped_stays world (step ∷ steps) c e =
    ap (λ (d : Course). fold (stepped_or_dropped world) d steps) (if_true c.message.dropped c (stepped world c step) e) ∙ dropped_stays world steps c e

-- one more step of a message that isn't dropped
pub course_more : (world : Known) (xs rest : List Action) (x : Action) (c next end : Course) → xs ≡ x ∷ rest → c.message.dropped ≡ false → next ≡ stepped world c (action_of x)
    → fold (stepped_or_dropped world) c (map action_of xs) ≡ end → fold (stepped_or_dropped world) next (map action_of rest) ≡ end
course_more world xs rest x c next end e alive is h =
    ap (λ (d : Course). fold (stepped_or_dropped world) d (map action_of rest)) (is ∙ sym (if_false c.message.dropped c (stepped world c (action_of x)) alive))
    ∙ subst (λ (ys : List Action). fold (stepped_or_dropped world) c (map action_of ys) ≡ end) e h

pub course_end : (world : Known) (xs : List Action) (c end : Course) → xs ≡ [] → fold (stepped_or_dropped world) c (map action_of xs) ≡ end → c ≡ end
course_end world xs c end e h = subst (λ (ys : List Action). fold (stepped_or_dropped world) c (map action_of ys) ≡ end) e h

pub step_lawful : (x : Action) (xs rest : List Action) → xs ≡ x ∷ rest → StepsHavePatterns (map action_of xs) → StepHasPatterns (action_of x)
step_lawful x xs rest e h = (subst (λ (ys : List Action). StepsHavePatterns (map action_of ys)) e h).0

pub steps_lawful : (x : Action) (xs rest : List Action) → xs ≡ x ∷ rest → StepsHavePatterns (map action_of xs) → StepsHavePatterns (map action_of rest)
steps_lawful x xs rest e h = (subst (λ (ys : List Action). StepsHavePatterns (map action_of ys)) e h).1

pub step_stands : (at : ℕ) (x : Action) (xs rest : List Action) (ps : List (List ℕ)) → xs ≡ x ∷ rest → StandAt at (flat_map step_patterns (map action_of xs)) ps
    → StandAt at (step_patterns (action_of x)) ps
step_stands at x xs rest ps e h =
    first_stand at (step_patterns (action_of x)) (flat_map step_patterns (map action_of rest)) ps (subst (λ (ys : List Action). StandAt at (flat_map step_patterns (map action_of ys)) ps) e h)

pub steps_stand : (at next : ℕ) (x : Action) (xs rest : List Action) (ps : List (List ℕ)) → xs ≡ x ∷ rest → StandAt at (flat_map step_patterns (map action_of xs)) ps
    → next ≡ at + length (step_patterns (action_of x)) → StandAt next (flat_map step_patterns (map action_of rest)) ps
steps_stand at next x xs rest ps e h is =
    subst (λ (n : ℕ). StandAt n (flat_map step_patterns (map action_of rest)) ps) (sym is)
    (second_stand at (step_patterns (action_of x)) (flat_map step_patterns (map action_of rest)) ps (subst (λ (ys : List Action). StandAt at (flat_map step_patterns (map action_of ys)) ps) e h))
