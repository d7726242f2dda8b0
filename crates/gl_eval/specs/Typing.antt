-- What a checked rule never meets: an operand or argument of a wrong kind (this project).
use Rattle.std.specs.Prelude.{◌≡◌, ℕ, Bool, true, false, IsTrue, ⊤, List, [], ◌∷◌, ◌++◌, fold, Some, None}
use Rattle.gl_rulelang.specs.Tree.{Tree, Step, RuleTree}
use Rattle.gl_fields.specs.declared.field.Field.{Field}
use Rattle.gl_check.specs.declared.kind.Kind.{Kind}
use Rattle.gl_check.specs.declared.kind.Kind.TheVariants as kinds
use Rattle.gl_check.specs.declared.stand.Stand.TheVariants as stands
use Rattle.gl_check.specs.Values.{Value, text, whole, truth, missing}
use Rattle.gl_check.specs.Checking.{Kinds, kind_of, known_behind, nodes_of, faults_from, first_fault}
use Rattle.gl_functions.specs.Worlds.{Known}
use Rattle.gl_eval.specs.declared.staged.Staged.{Staged}
use Rattle.gl_eval.specs.Meaning.{Scope, meaning, at_condition}
use Rattle.gl_eval.specs.Actions.{course_behind}

-- a value of a kind; of each kind but Bool it may be missing
abbrev pub is_of_kind : Kind → Value → Bool
is_of_kind kinds.Text (text t) = true
is_of_kind kinds.Text missing = true
is_of_kind kinds.Whole (whole n) = true
is_of_kind kinds.Whole missing = true
is_of_kind kinds.Bool (truth b) = true
is_of_kind kinds.Any (text t) = true
is_of_kind kinds.Any (whole n) = true
is_of_kind kinds.Any missing = true
is_of_kind _ _ = false

-- the variables of a scope are those that are known, and their values of the known kinds
abbrev pub AreOfKinds : Kinds → List (List ℕ × Value) → Type 0
AreOfKinds [] [] = ⊤
AreOfKinds [] (v ∷ variables) = ⊥
AreOfKinds (k ∷ known) [] = ⊥
AreOfKinds (k ∷ known) (v ∷ variables) = (k.0 ≡ v.0) × IsTrue (is_of_kind k.1 v.1) × AreOfKinds known variables

-- an expression without a fault means a value of its kind
abbrev pub HasItsKind : Type 0
HasItsKind = (known : Kinds) (s : Scope) (e : Tree) (kind : Kind) → faults_from 0 (nodes_of stands.Operand known e) ≡ []
    → AreOfKinds known s.variables → kind_of known e ≡ Some kind → IsTrue (is_of_kind kind (meaning s e))

-- the condition of a rule without a fault is true or false, and never missing
abbrev pub ConditionIsDecided : Type 0
ConditionIsDecided = (rule : RuleTree) (world : Known) (fields : List Field) (streams : List ℕ) → first_fault rule ≡ None
    → IsTrue (is_of_kind kinds.Bool (meaning (at_condition world fields streams) rule.condition))

-- behind some first actions of a rule without a fault the variables have the kinds that are known there
abbrev pub VariablesHaveTheirKinds : Type 0
VariablesHaveTheirKinds = (rule : RuleTree) (world : Known) (m : Staged) (before after : List Step) → first_fault rule ≡ None
    → rule.steps ≡ before ++ after → (course_behind world before m).message.dropped ≡ false
    → AreOfKinds (fold known_behind [] before) (course_behind world before m).variables
