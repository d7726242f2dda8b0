-- A rule as a plain value: texts by their bytes, boxes by their content, vectors by their items.
use Rattle.std.specs.Prelude.{ℕ, suc, max, ℤ, Bool, true, false, List, [], ◌∷◌, map, Option, Some, None}
use Rattle.gl_rulelang.specs.declared.rule.Unary.{Unary}
use Rattle.gl_rulelang.specs.declared.rule.Binary.{Binary}
use Rattle.gl_rulelang.specs.declared.rule.Expr.{Expr}
use Rattle.gl_rulelang.specs.declared.rule.Expr.TheFolds.{fold-Expr, fold-Call}
use Rattle.gl_rulelang.specs.declared.rule.Expr.TheOpen.{Expr-F, Call-F}
use Rattle.gl_rulelang.specs.declared.rule.Call.{Call}
use Rattle.gl_rulelang.specs.declared.rule.Action.{Action}
use Rattle.gl_rulelang.specs.declared.rule.Action.TheVariants as actions
use Rattle.gl_rulelang.specs.declared.rule.Rule.{Rule}

mutual
  pub data Tree : Type 0 where
    text : List ℕ → Tree
    whole : ℤ → Tree
    boolean : Bool → Tree
    field : List ℕ → Tree
    variable : List ℕ → Tree
    unary : Unary → Tree → Tree
    binary : Binary → Tree → Tree → Tree
    call : List ℕ → Arguments → Tree

  -- the arguments of a call, some with a name
  pub data Arguments : Type 0 where
    none : Arguments
    argument : Option (List ℕ) → Tree → Arguments → Arguments

abbrev pub row : List (Option (List ℕ) × Tree) → Arguments
row [] = none
row (a ∷ more) = argument a.0 a.1 (row more)

-- one level, with each expression inside already seen as its tree, and each call as its name and arguments
abbrev pub tree_step : Expr-F Tree (List ℕ × Arguments) → Tree
tree_step (Expr-F.Text s) = text s
tree_step (Expr-F.Whole n) = whole n
tree_step (Expr-F.Bool b) = boolean b
tree_step (Expr-F.Field s) = field s
tree_step (Expr-F.Var s) = variable s
tree_step (Expr-F.Unary sign e) = unary sign e.value
tree_step (Expr-F.Binary sign a b) = binary sign a.value b.value
tree_step (Expr-F.Call c) = call c.0 c.1

abbrev pub call_step : Call-F Tree (List ℕ × Arguments) → List ℕ × Arguments
call_step c = (c.name, row c.arguments.items)

abbrev pub tree_of : Expr → Tree
tree_of = fold-Expr Tree (List ℕ × Arguments) tree_step call_step

abbrev pub call_of : Call → List ℕ × Arguments
call_of = fold-Call Tree (List ℕ × Arguments) tree_step call_step

abbrev pub call_tree : List ℕ × Arguments → Tree
call_tree c = call c.0 c.1

abbrev pub args_view : List (Option (List ℕ) × Expr) → List (Option (List ℕ) × Tree)
args_view given = map (λ a. (a.0, tree_of a.1)) given

-- a sign before or between operands is outermost
abbrev pub is_operation : Tree → Bool
is_operation (unary sign e) = true
is_operation (binary sign a b) = true
is_operation _ = false

-- what an operation on one operand, one on two, and a call are made of
abbrev pub unary_parts : Tree → Option (Unary × Tree)
unary_parts (unary sign e) = Some (sign, e)
unary_parts _ = None

abbrev pub binary_parts : Tree → Option (Binary × Tree × Tree)
binary_parts (binary sign a b) = Some (sign, a, b)
binary_parts _ = None

abbrev pub call_parts : Tree → Option (List ℕ × Arguments)
call_parts (call name given) = Some (name, given)
call_parts _ = None

-- how many expressions stand inside one another at most: a name or a text is one
abbrev mutual
  pub height : Tree → ℕ
  height (unary sign e) = suc (height e)
  height (binary sign a b) = suc (max (height a) (height b))
  height (call name given) = suc (heights given)
  height _ = 1

  pub heights : Arguments → ℕ
  heights none = 0
  heights (argument name e more) = max (height e) (heights more)

-- an action, and a rule
pub data Step : Type 0 where
  assign : List ℕ → Tree → Step
  perform : List ℕ → Arguments → Step

pub record RuleTree : Type 0 where
  pub name : List ℕ
  pub condition : Tree
  pub steps : List Step

abbrev pub action_of : Action → Step
action_of (actions.Let x e) = assign x (tree_of e)
action_of (actions.Do c) = perform (call_of c).0 (call_of c).1

abbrev pub rule_of : Rule → RuleTree
rule_of r = record { name = r.name; condition = tree_of r.condition; steps = map action_of r.actions.items }
