-- Which rules are lawful, and which fault of a rule is told (this project).
-- The nodes of a rule are its expressions and calls, numbered from 0: those of the condition before those of the actions in
-- order, and each node behind the nodes inside it. The first node with a fault is refused.
use Rattle.std.specs.Prelude.{◌≡◌, ℕ, ◌+◌, Bool, true, false, not, ◌&&◌, ◌||◌, List, [], ◌∷◌, ◌++◌, filter_map, flat_map, length, slice_get, Option, Some, None, is_some, is_none, option_and_then, unwrap_or, Result, Ok, Err, ⊤, if◌then◌else◌}
use Rattle.std.specs.List.{list_any, enumerate_from}
use Rattle.std.specs.Map.{lookup}
use Rattle.std.specs.Str.{bytes_eq}
use Rattle.gl_rulelang.specs.declared.rule.Unary.{Unary}
use Rattle.gl_rulelang.specs.declared.rule.Unary.TheVariants as prefixes
use Rattle.gl_rulelang.specs.declared.rule.Binary.{Binary}
use Rattle.gl_rulelang.specs.declared.rule.Binary.TheVariants as infixes
use Rattle.gl_rulelang.specs.Tree.{Tree, text, whole, boolean, field, variable, unary, binary, call, Arguments, none, argument, Step, assign, perform, RuleTree}
use Rattle.gl_check.specs.declared.kind.Kind.{Kind}
use Rattle.gl_check.specs.declared.kind.Kind.TheVariants as kinds
use Rattle.gl_check.specs.declared.stand.Stand.{Stand}
use Rattle.gl_check.specs.declared.stand.Stand.TheVariants as stands
use Rattle.gl_check.specs.declared.function.Function.{Function}
use Rattle.gl_check.specs.declared.refusal.CheckRefusal.{CheckRefusal}
use Rattle.gl_check.specs.declared.refusal.CheckRefusal.TheVariants as refusals
use Rattle.gl_check.specs.Functions.{ParameterRow, row_of, function_named, gives_named}
use Rattle.gl_check.specs.Arguments.{Names, names_in, trees_in, argument_for, in_places, are_fitting}

-- The kind of an expression is told by its outermost node.

-- the kinds of the variables that were given so far, the last one first
abbrev pub Kinds : Type 0
Kinds = List (List ℕ × Kind)

abbrev pub kind_in : List ℕ → Kinds → Option Kind
kind_in name known = lookup (λ other. bytes_eq name other) known

abbrev pub prefix_kind : Unary → Kind
prefix_kind prefixes.Minus = kinds.Whole
prefix_kind prefixes.Not = kinds.Bool

-- the kind of the operands, where they have to be of one
abbrev pub operand_kind : Binary → Option Kind
operand_kind infixes.Or = Some kinds.Bool
operand_kind infixes.And = Some kinds.Bool
operand_kind infixes.Equal = None
operand_kind infixes.NotEqual = None
operand_kind infixes.Less = Some kinds.Whole
operand_kind infixes.AtMost = Some kinds.Whole
operand_kind infixes.Greater = Some kinds.Whole
operand_kind infixes.AtLeast = Some kinds.Whole
operand_kind infixes.Plus = Some kinds.Whole
operand_kind infixes.Minus = Some kinds.Whole
operand_kind infixes.Times = Some kinds.Whole
operand_kind infixes.Divide = Some kinds.Whole
operand_kind infixes.Remainder = Some kinds.Whole

abbrev pub infix_kind : Binary → Kind
infix_kind infixes.Or = kinds.Bool
infix_kind infixes.And = kinds.Bool
infix_kind infixes.Equal = kinds.Bool
infix_kind infixes.NotEqual = kinds.Bool
infix_kind infixes.Less = kinds.Bool
infix_kind infixes.AtMost = kinds.Bool
infix_kind infixes.Greater = kinds.Bool
infix_kind infixes.AtLeast = kinds.Bool
infix_kind infixes.Plus = kinds.Whole
infix_kind infixes.Minus = kinds.Whole
infix_kind infixes.Times = kinds.Whole
infix_kind infixes.Divide = kinds.Whole
infix_kind infixes.Remainder = kinds.Whole

-- none of an unknown variable, an unknown function or an action
abbrev pub kind_of : Kinds → Tree → Option Kind
kind_of known (text s) = Some kinds.Text
kind_of known (whole n) = Some kinds.Whole
kind_of known (boolean b) = Some kinds.Bool
kind_of known (field f) = Some kinds.Any
kind_of known (variable x) = kind_in x known
kind_of known (unary sign e) = Some (prefix_kind sign)
kind_of known (binary sign a b) = Some (infix_kind sign)
kind_of known (call f given) = gives_named (function_named f)

abbrev pub is_kind : Kind → Kind → Bool
is_kind kinds.Text kinds.Text = true
is_kind kinds.Whole kinds.Whole = true
is_kind kinds.Bool kinds.Bool = true
is_kind kinds.Any kinds.Any = true
is_kind _ _ = false

-- it has a kind, which isn't this one
abbrev pub is_wrong : Kind → Option Kind → Bool
is_wrong wanted None = false
is_wrong wanted (Some kind) = not (is_kind wanted kind)

-- The nodes of a rule. A node stands as the condition, inside another node or behind a `let`, or as an action.

pub record Node : Type 0 where
  pub stand : Stand
  -- the kinds of the variables there
  pub known : Kinds
  pub tree : Tree

abbrev pub node : Stand → Kinds → Tree → Node
node stand known e = record { stand = stand; known = known; tree = e }

abbrev mutual
  pub nodes_of : Stand → Kinds → Tree → List Node
  nodes_of stand known (unary sign e) = nodes_of stands.Operand known e ++ node stand known (unary sign e) ∷ []
  nodes_of stand known (binary sign a b) = nodes_of stands.Operand known a ++ (nodes_of stands.Operand known b ++ node stand known (binary sign a b) ∷ [])
  nodes_of stand known (call f given) = argument_nodes known given ++ node stand known (call f given) ∷ []
  nodes_of stand known (text s) = node stand known (text s) ∷ []
  nodes_of stand known (whole n) = node stand known (whole n) ∷ []
  nodes_of stand known (boolean b) = node stand known (boolean b) ∷ []
  nodes_of stand known (field f) = node stand known (field f) ∷ []
  nodes_of stand known (variable x) = node stand known (variable x) ∷ []

  pub argument_nodes : Kinds → Arguments → List Node
  argument_nodes known none = []
  argument_nodes known (argument name e more) = nodes_of stands.Operand known e ++ argument_nodes known more

abbrev pub step_nodes : Kinds → Step → List Node
step_nodes known (assign x e) = nodes_of stands.Operand known e
step_nodes known (perform f given) = nodes_of stands.Action known (call f given)

-- the variables that are known behind a step
abbrev pub known_behind : Kinds → Step → Kinds
known_behind known (assign x e) = (x, unwrap_or (kind_of known e) kinds.Any) ∷ known
known_behind known (perform f given) = known

abbrev pub steps_nodes : Kinds → List Step → List Node
steps_nodes known [] = []
steps_nodes known (step ∷ steps) = step_nodes known step ++ steps_nodes (known_behind known step) steps

abbrev pub rule_nodes : RuleTree → List Node
rule_nodes rule = nodes_of stands.Condition [] rule.condition ++ steps_nodes [] rule.steps

-- What is faulty at a node, looked at alone.

abbrev pub is_unknown_function : Tree → Bool
is_unknown_function (call f given) = is_none (function_named f)
is_unknown_function _ = false

-- an action stands where an action does, and a function where it doesn't
abbrev pub is_misplaced : Stand → Option Kind → Bool
is_misplaced stands.Condition given = is_none given
is_misplaced stands.Operand given = is_none given
is_misplaced stands.Action given = is_some given

abbrev pub string_in : Tree → Option (List ℕ)
string_in (text s) = Some s
string_in _ = None

-- the string that is given for a parameter that takes a pattern
abbrev pub pattern_given : Arguments → ℕ × ParameterRow → Option (List ℕ)
pattern_given given p = if p.1.is_pattern then option_and_then string_in (argument_for (trees_in given) (names_in given) p) else None

-- a pattern is no string of the rule
abbrev pub lacks_pattern : Arguments → ℕ × ParameterRow → Bool
lacks_pattern given p = p.1.is_pattern && is_none (pattern_given given p)

abbrev pub has_bad_arguments : Stand → Arguments → Option Function → Bool
has_bad_arguments stand given None = false
has_bad_arguments stand given (Some f) =
    not (are_fitting (row_of f).parameters (names_in given)) || is_misplaced stand (row_of f).gives
    || list_any (lacks_pattern given) (in_places (row_of f).parameters)

abbrev pub is_badly_called : Stand → Tree → Bool
is_badly_called stand (call f given) = has_bad_arguments stand given (function_named f)
is_badly_called _ _ = false

-- an argument is of another kind than its parameter asks
abbrev pub is_wrongly_given : Kinds → Arguments → ℕ × ParameterRow → Bool
is_wrongly_given known given p =
    not (is_kind kinds.Any p.1.kind) && is_wrong p.1.kind (option_and_then (kind_of known) (argument_for (trees_in given) (names_in given) p))

abbrev pub has_wrong_arguments : Kinds → Arguments → Option Function → Bool
has_wrong_arguments known given None = false
has_wrong_arguments known given (Some f) = list_any (is_wrongly_given known given) (in_places (row_of f).parameters)

abbrev pub has_wrong_operands : Kinds → Option Kind → Tree → Tree → Bool
has_wrong_operands known None a b = false
has_wrong_operands known (Some wanted) a b = is_wrong wanted (kind_of known a) || is_wrong wanted (kind_of known b)

-- an operand or argument is of a wrong kind
abbrev pub takes_wrong : Kinds → Tree → Bool
takes_wrong known (unary sign e) = is_wrong (prefix_kind sign) (kind_of known e)
takes_wrong known (binary sign a b) = has_wrong_operands known (operand_kind sign) a b
takes_wrong known (call f given) = has_wrong_arguments known given (function_named f)
takes_wrong _ _ = false

-- a condition is a truth value
abbrev pub is_wrong_condition : Stand → Option Kind → Bool
is_wrong_condition stands.Condition kind = is_wrong kinds.Bool kind
is_wrong_condition stands.Operand kind = false
is_wrong_condition stands.Action kind = false

abbrev pub is_unknown_variable : Kinds → Tree → Bool
is_unknown_variable known (variable x) = is_none (kind_in x known)
is_unknown_variable _ _ = false

-- the fault of the node of this number, the first that it has in this order
abbrev pub fault_at : ℕ × Node → Option CheckRefusal
fault_at n =
    if is_unknown_function n.1.tree then Some (refusals.UnknownFunction n.0)
    else (if is_badly_called n.1.stand n.1.tree then Some (refusals.BadArguments n.0)
    else (if takes_wrong n.1.known n.1.tree || is_wrong_condition n.1.stand (kind_of n.1.known n.1.tree) then Some (refusals.WrongType n.0)
    else (if is_unknown_variable n.1.known n.1.tree then Some (refusals.UnknownVariable n.0)
    else None)))

-- the faults of nodes that are numbered from this number on
abbrev pub faults_from : ℕ → List Node → List CheckRefusal
faults_from at nodes = filter_map fault_at (enumerate_from at nodes)

-- the fault of the first faulty node
unfoldable pub first_fault : RuleTree → Option CheckRefusal
first_fault rule = slice_get (faults_from 0 (rule_nodes rule)) 0

-- What a walk over nodes numbered from this number on answered: the number behind them where none has a fault, else the first
-- fault, unless memory ran out.
abbrev pub Walks : ℕ → List Node → Result ℕ CheckRefusal → Type 0
Walks at nodes (Ok next) = (faults_from at nodes ≡ []) × (next ≡ at + length nodes)
Walks at nodes (Err (refusals.UnknownFunction k)) = slice_get (faults_from at nodes) 0 ≡ Some (refusals.UnknownFunction k)
Walks at nodes (Err (refusals.BadArguments k)) = slice_get (faults_from at nodes) 0 ≡ Some (refusals.BadArguments k)
Walks at nodes (Err (refusals.WrongType k)) = slice_get (faults_from at nodes) 0 ≡ Some (refusals.WrongType k)
Walks at nodes (Err (refusals.UnknownVariable k)) = slice_get (faults_from at nodes) 0 ≡ Some (refusals.UnknownVariable k)
Walks at nodes (Err refusals.OutOfMemory) = ⊤

-- The patterns of a rule.

-- the strings that are given to a call as patterns
abbrev pub patterns_for : Arguments → Option Function → List (List ℕ)
patterns_for given None = []
patterns_for given (Some f) = filter_map (pattern_given given) (in_places (row_of f).parameters)

abbrev mutual
  -- the patterns inside an expression, those of each call behind those of its arguments
  pub patterns_of : Tree → List (List ℕ)
  patterns_of (unary sign e) = patterns_of e
  patterns_of (binary sign a b) = patterns_of a ++ patterns_of b
  patterns_of (call f given) = patterns_in given ++ patterns_for given (function_named f)
  patterns_of (text s) = []
  patterns_of (whole n) = []
  patterns_of (boolean b) = []
  patterns_of (field f) = []
  patterns_of (variable x) = []

  pub patterns_in : Arguments → List (List ℕ)
  patterns_in none = []
  patterns_in (argument name e more) = patterns_of e ++ patterns_in more

abbrev pub step_patterns : Step → List (List ℕ)
step_patterns (assign x e) = patterns_of e
step_patterns (perform f given) = patterns_of (call f given)

-- the strings that are patterns, in the order of the calls that take them
unfoldable pub pattern_texts : RuleTree → List (List ℕ)
pattern_texts rule = patterns_of rule.condition ++ flat_map step_patterns rule.steps

-- what was answered: the rule where it has no fault, else its first fault, unless memory ran out
abbrev pub IsChecked : RuleTree → Result RuleTree CheckRefusal → Type 0
IsChecked rule (Ok checked) = (first_fault rule ≡ None) × (checked ≡ rule)
IsChecked rule (Err (refusals.UnknownFunction at)) = first_fault rule ≡ Some (refusals.UnknownFunction at)
IsChecked rule (Err (refusals.BadArguments at)) = first_fault rule ≡ Some (refusals.BadArguments at)
IsChecked rule (Err (refusals.WrongType at)) = first_fault rule ≡ Some (refusals.WrongType at)
IsChecked rule (Err (refusals.UnknownVariable at)) = first_fault rule ≡ Some (refusals.UnknownVariable at)
IsChecked rule (Err refusals.OutOfMemory) = ⊤
