-- What is open round a place of an expression, the innermost first, and how operations bind.
use Rattle.std.specs.Prelude.{ℕ, Bool, true, false, List, [], ◌∷◌, Option, nat_le, sum_by, if◌then◌else◌}
use Rattle.gl_rulelang.specs.declared.rule.Unary.{Unary}
use Rattle.gl_rulelang.specs.declared.rule.Unary.TheVariants as signs
use Rattle.gl_rulelang.specs.declared.rule.Binary.{Binary}
use Rattle.gl_rulelang.specs.declared.rule.Binary.TheVariants as ops
use Rattle.gl_rulelang.specs.declared.nest.Open.{Open as CodeOpen}
use Rattle.gl_rulelang.specs.declared.nest.Open.TheVariants as code
use Rattle.gl_rulelang.specs.Tree.{Tree, unary, binary, tree_of, args_view}

-- how many parentheses may be open, and how many expressions may stand inside one another
abbrev pub deepest : ℕ
deepest = 64

pub data Open : Type 0 where
  -- a sign before its operand
  prefix : Unary → Open
  -- a left operand and the sign behind it
  infix_ : Binary → Tree → Open
  paren : Open
  -- a call: its name, the arguments before this one, and the name of this one
  called : List ℕ → List (Option (List ℕ) × Tree) → Option (List ℕ) → Open
  -- the same of a call that is an action, and so is no expression
  performed : List ℕ → List (Option (List ℕ) × Tree) → Option (List ℕ) → Open

abbrev pub open_view : CodeOpen → Open
open_view (code.Prefix s) = prefix s
open_view (code.Infix op e) = infix_ op (tree_of e)
open_view code.Paren = paren
open_view (code.Call p) = called p.name (args_view p.arguments.items) p.argument
open_view (code.Action p) = performed p.name (args_view p.arguments.items) p.argument

abbrev pub level_of : Open → ℕ
level_of (prefix s) = 1
level_of (infix_ op e) = 1
level_of paren = 0
level_of (called name given this) = 1
level_of (performed name given this) = 0

-- how many expressions stand round the place
abbrev pub levels : List Open → ℕ
levels stack = sum_by level_of stack

abbrev pub parenthesis_of : Open → ℕ
parenthesis_of (prefix s) = 0
parenthesis_of (infix_ op e) = 0
parenthesis_of paren = 1
parenthesis_of (called name given this) = 1
parenthesis_of (performed name given this) = 1

-- how many parentheses are open, those of calls counted
abbrev pub parentheses : List Open → ℕ
parentheses stack = sum_by parenthesis_of stack

-- a greater number binds tighter; `!` has 2, and the sign `-` before its operand has 6
abbrev pub precedence : Binary → ℕ
precedence ops.Or = 0
precedence ops.And = 1
precedence ops.Equal = 3
precedence ops.NotEqual = 3
precedence ops.Less = 3
precedence ops.AtMost = 3
precedence ops.Greater = 3
precedence ops.AtLeast = 3
precedence ops.Plus = 4
precedence ops.Minus = 4
precedence ops.Times = 5
precedence ops.Divide = 5
precedence ops.Remainder = 5

abbrev pub prefix_precedence : Unary → ℕ
prefix_precedence signs.Not = 2
prefix_precedence signs.Minus = 6

-- a comparison stands between two sums, and none stands in another without parentheses
abbrev pub is_comparison : Binary → Bool
is_comparison ops.Equal = true
is_comparison ops.NotEqual = true
is_comparison ops.Less = true
is_comparison ops.AtMost = true
is_comparison ops.Greater = true
is_comparison ops.AtLeast = true
is_comparison _ = false

-- the least precedence of a left operand without parentheses: equal ones group to the left, but for comparisons
abbrev pub threshold : Binary → ℕ
threshold op = if is_comparison op then 4 else precedence op

-- an operation that is complete where a sign with this threshold follows
abbrev pub binds : ℕ → Open → Bool
binds p (prefix s) = nat_le p (prefix_precedence s)
binds p (infix_ op e) = nat_le p (precedence op)
binds p paren = false
binds p (called name given this) = false
binds p (performed name given this) = false

abbrev pub top_binds : ℕ → List Open → Bool
top_binds p [] = false
top_binds p (o ∷ stack) = binds p o

abbrev pub is_compared : Open → Bool
is_compared (infix_ op e) = is_comparison op
is_compared _ = false

abbrev pub top_compares : List Open → Bool
top_compares [] = false
top_compares (o ∷ stack) = is_compared o

abbrev pub may_negate : Open → Bool
may_negate (prefix s) = nat_le (prefix_precedence s) 2
may_negate (infix_ op e) = nat_le (precedence op) 2
may_negate _ = true

-- whether `!` may stand here
abbrev pub takes_not : List Open → Bool
takes_not [] = true
takes_not (o ∷ stack) = may_negate o

abbrev pub completed : Open → Tree → Tree
completed (prefix s) e = unary s e
completed (infix_ op a) e = binary op a e
completed _ e = e

-- the operand with all operations that it completes before a sign with this threshold, and what stays open
abbrev pub reduced : ℕ → List Open → Tree → List Open × Tree
reduced p [] e = ([], e)
reduced p (o ∷ stack) e = if binds p o then reduced p stack (completed o e) else (o ∷ stack, e)
