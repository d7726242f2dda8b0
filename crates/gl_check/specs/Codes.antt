-- A code of rules, so that a struct may be seen as one: an expression is stored as the list of its nodes, each behind those
-- inside it, and is given back by a stack.
use Rattle.std.specs.Prelude.{◌≡◌, ◌⊎◌, ℕ, ℤ, Bool, true, false, ◌==◌, List, [], ◌∷◌, ◌++◌, get_or, Option, refl, if◌then◌else◌}
use Rattle.std.specs.List.{fold}
use Rattle.std.specs.Coded.{Coded, code_by, coded×, coded⊎, coded_list, coded_option, coded_ℕ, coded_ℤ}
use Rattle.std.proofs.Common.{ap, ◌∙◌}
use mathlib.Core.Logic.{inl, inr}
use Rattle.gl_rulelang.specs.declared.rule.Unary.{Unary}
use Rattle.gl_rulelang.specs.declared.rule.Unary.TheVariants as prefixes
use Rattle.gl_rulelang.specs.declared.rule.Binary.{Binary}
use Rattle.gl_rulelang.specs.declared.rule.Binary.TheVariants as infixes
use Rattle.gl_rulelang.specs.Tree.{Tree, text, whole, boolean, field, variable, unary, binary, call, Arguments, none, argument, Step, assign, perform, RuleTree}

-- a node without what stands inside it
pub data Node : Type 0 where
  text_node : List ℕ → Node
  whole_node : ℤ → Node
  boolean_node : Bool → Node
  field_node : List ℕ → Node
  variable_node : List ℕ → Node
  unary_node : Unary → Node
  binary_node : Binary → Node
  call_node : List ℕ → Node
  no_more : Node
  argument_node : Option (List ℕ) → Node

-- The code of a node.

abbrev pub Kept : Type 0
Kept = (ℕ × List ℕ) ⊎ (ℤ ⊎ (ℕ ⊎ Option (List ℕ)))

-- the nodes that hold nothing else, by their numbers
abbrev pub plain : List Node
plain =
    boolean_node false ∷ boolean_node true ∷ unary_node prefixes.Minus ∷ unary_node prefixes.Not
    ∷ binary_node infixes.Or ∷ binary_node infixes.And ∷ binary_node infixes.Equal ∷ binary_node infixes.NotEqual
    ∷ binary_node infixes.Less ∷ binary_node infixes.AtMost ∷ binary_node infixes.Greater ∷ binary_node infixes.AtLeast
    ∷ binary_node infixes.Plus ∷ binary_node infixes.Minus ∷ binary_node infixes.Times ∷ binary_node infixes.Divide
    ∷ binary_node infixes.Remainder ∷ no_more ∷ []

abbrev pub unary_number : Unary → ℕ
unary_number prefixes.Minus = 2
unary_number prefixes.Not = 3

abbrev pub binary_number : Binary → ℕ
binary_number infixes.Or = 4
binary_number infixes.And = 5
binary_number infixes.Equal = 6
binary_number infixes.NotEqual = 7
binary_number infixes.Less = 8
binary_number infixes.AtMost = 9
binary_number infixes.Greater = 10
binary_number infixes.AtLeast = 11
binary_number infixes.Plus = 12
binary_number infixes.Minus = 13
binary_number infixes.Times = 14
binary_number infixes.Divide = 15
binary_number infixes.Remainder = 16

abbrev pub kept : Node → Kept
kept (text_node t) = inl (0, t)
kept (field_node f) = inl (1, f)
kept (variable_node x) = inl (2, x)
kept (call_node f) = inl (3, f)
kept (whole_node n) = inr (inl n)
kept (boolean_node b) = inr (inr (inl (if b then 1 else 0)))
kept (unary_node sign) = inr (inr (inl (unary_number sign)))
kept (binary_node sign) = inr (inr (inl (binary_number sign)))
kept no_more = inr (inr (inl 17))
kept (argument_node name) = inr (inr (inr name))

abbrev pub named_node : ℕ × List ℕ → Node
named_node p = if p.0 == 0 then text_node p.1 else (if p.0 == 1 then field_node p.1 else (if p.0 == 2 then variable_node p.1 else call_node p.1))

abbrev pub given : Kept → Node
given (inl p) = named_node p
given (inr (inl n)) = whole_node n
given (inr (inr (inl k))) = get_or plain k no_more
given (inr (inr (inr name))) = argument_node name

pub given_kept : (n : Node) → given (kept n) ≡ n
given_kept (text_node t) = refl
given_kept (whole_node n) = refl
given_kept (boolean_node false) = refl
given_kept (boolean_node true) = refl
given_kept (field_node f) = refl
given_kept (variable_node x) = refl
given_kept (unary_node prefixes.Minus) = refl
given_kept (unary_node prefixes.Not) = refl
given_kept (binary_node infixes.Or) = refl
given_kept (binary_node infixes.And) = refl
given_kept (binary_node infixes.Equal) = refl
given_kept (binary_node infixes.NotEqual) = refl
given_kept (binary_node infixes.Less) = refl
given_kept (binary_node infixes.AtMost) = refl
given_kept (binary_node infixes.Greater) = refl
given_kept (binary_node infixes.AtLeast) = refl
given_kept (binary_node infixes.Plus) = refl
given_kept (binary_node infixes.Minus) = refl
given_kept (binary_node infixes.Times) = refl
given_kept (binary_node infixes.Divide) = refl
given_kept (binary_node infixes.Remainder) = refl
given_kept (call_node f) = refl
given_kept no_more = refl
given_kept (argument_node name) = refl

abbrev pub node_code : Coded Node
node_code = code_by Kept (coded⊎ (coded× coded_ℕ (coded_list coded_ℕ)) (coded⊎ coded_ℤ (coded⊎ coded_ℕ (coded_option (coded_list coded_ℕ))))) kept given given_kept

-- An expression as its nodes.

abbrev mutual
  pub nodes : Tree → List Node
  nodes (text t) = text_node t ∷ []
  nodes (whole n) = whole_node n ∷ []
  nodes (boolean b) = boolean_node b ∷ []
  nodes (field f) = field_node f ∷ []
  nodes (variable x) = variable_node x ∷ []
  nodes (unary sign e) = nodes e ++ unary_node sign ∷ []
  nodes (binary sign a b) = nodes a ++ (nodes b ++ binary_node sign ∷ [])
  nodes (call f arguments) = argument_nodes arguments ++ call_node f ∷ []

  pub argument_nodes : Arguments → List Node
  argument_nodes none = no_more ∷ []
  argument_nodes (argument name e more) = argument_nodes more ++ (nodes e ++ argument_node name ∷ [])

-- expressions and arguments that are whole, the last one first
pub record Stack : Type 0 where
  pub trees : List Tree
  pub rests : List Arguments

abbrev pub push : Tree → Stack → Stack
push e s = record { trees = e ∷ s.trees; rests = s.rests }

abbrev pub push_rest : Arguments → Stack → Stack
push_rest arguments s = record { trees = s.trees; rests = arguments ∷ s.rests }

abbrev pub with_one : (Tree → Tree) → List Tree → List Tree
with_one make [] = []
with_one make (e ∷ es) = make e ∷ es

abbrev pub with_two : (Tree → Tree → Tree) → List Tree → List Tree
with_two make [] = []
with_two make (b ∷ []) = b ∷ []
with_two make (b ∷ (a ∷ es)) = make a b ∷ es

abbrev pub called : List ℕ → List Tree → List Arguments → Stack
called f es [] = record { trees = es; rests = [] }
called f es (arguments ∷ more) = record { trees = call f arguments ∷ es; rests = more }

abbrev pub joined : Option (List ℕ) → List Tree → List Arguments → Stack
joined name [] rests = record { trees = []; rests = rests }
joined name (e ∷ es) [] = record { trees = e ∷ es; rests = [] }
joined name (e ∷ es) (more ∷ rests) = record { trees = es; rests = argument name e more ∷ rests }

abbrev pub step : Stack → Node → Stack
step s (text_node t) = push (text t) s
step s (whole_node n) = push (whole n) s
step s (boolean_node b) = push (boolean b) s
step s (field_node f) = push (field f) s
step s (variable_node x) = push (variable x) s
step s (unary_node sign) = record { trees = with_one (unary sign) s.trees; rests = s.rests }
step s (binary_node sign) = record { trees = with_two (binary sign) s.trees; rests = s.rests }
step s (call_node f) = called f s.trees s.rests
step s no_more = push_rest none s
step s (argument_node name) = joined name s.trees s.rests

abbrev pub run : List Node → Stack → Stack
run ns s = fold step s ns

abbrev pub top : List Tree → Tree
top [] = text []
top (e ∷ es) = e

abbrev pub tree_in : List Node → Tree
tree_in ns = top (run ns (record { trees = []; rests = [] })).trees

run-append : (ns more : List Node) (s : Stack) → run (ns ++ more) s ≡ run more (run ns s)
run-append [] more s = refl
run-append (n ∷ ns) more s = run-append ns more (step s n)

mutual
  pub back : (e : Tree) (s : Stack) → run (nodes e) s ≡ push e s
  back (text t) s = refl
  back (whole n) s = refl
  back (boolean b) s = refl
  back (field f) s = refl
  back (variable x) s = refl
  back (unary sign e) s = run-append (nodes e) (unary_node sign ∷ []) s ∙ ap (run (unary_node sign ∷ [])) (back e s)
  back (binary sign a b) s =
      run-append (nodes a) (nodes b ++ binary_node sign ∷ []) s
      ∙ ap (run (nodes b ++ binary_node sign ∷ [])) (back a s)
      ∙ run-append (nodes b) (binary_node sign ∷ []) (push a s)
      ∙ ap (run (binary_node sign ∷ [])) (back b (push a s))
  back (call f arguments) s = run-append (argument_nodes arguments) (call_node f ∷ []) s ∙ ap (run (call_node f ∷ [])) (all_back arguments s)

  pub all_back : (arguments : Arguments) (s : Stack) → run (argument_nodes arguments) s ≡ push_rest arguments s
  all_back none s = refl
  all_back (argument name e more) s =
      run-append (argument_nodes more) (nodes e ++ argument_node name ∷ []) s
      ∙ ap (run (nodes e ++ argument_node name ∷ [])) (all_back more s)
      ∙ run-append (nodes e) (argument_node name ∷ []) (push_rest more s)
      ∙ ap (run (argument_node name ∷ [])) (back e (push_rest more s))

pub tree_back : (e : Tree) → tree_in (nodes e) ≡ e
tree_back e = ap (λ (s : Stack). top s.trees) (back e (record { trees = []; rests = [] }))

abbrev pub tree_code : Coded Tree
tree_code = code_by (List Node) (coded_list node_code) nodes tree_in tree_back

-- Actions and rules.

abbrev pub step_parts : Step → (List ℕ × Tree) ⊎ Tree
step_parts (assign x e) = inl (x, e)
step_parts (perform f arguments) = inr (call f arguments)

abbrev pub performed : Tree → Step
performed (call f arguments) = perform f arguments
performed e = perform [] none

abbrev pub step_of : (List ℕ × Tree) ⊎ Tree → Step
step_of (inl p) = assign p.0 p.1
step_of (inr e) = performed e

pub step_back : (s : Step) → step_of (step_parts s) ≡ s
step_back (assign x e) = refl
step_back (perform f arguments) = refl

abbrev pub step_code : Coded Step
step_code = code_by ((List ℕ × Tree) ⊎ Tree) (coded⊎ (coded× (coded_list coded_ℕ) tree_code) tree_code) step_parts step_of step_back

abbrev pub rule_code : Coded RuleTree
rule_code =
    code_by (List ℕ × (Tree × List Step)) (coded× (coded_list coded_ℕ) (coded× tree_code (coded_list step_code)))
    (λ rule. (rule.name, (rule.condition, rule.steps)))
    (λ p. record { name = p.0; condition = p.1.0; steps = p.1.1 })
    (λ _. refl)
