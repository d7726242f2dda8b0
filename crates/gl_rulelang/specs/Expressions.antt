-- Reading an expression, token by token: what each token may follow, and what is then open.
use Rattle.std.specs.Prelude.{ℕ, ◌+◌, true, false, List, [], ◌∷◌, ◌++◌, Option, Some, None, Ok, Err, nat_lt, ◌&&◌, if◌then◌else◌}
use Rattle.gl_rulelang.specs.declared.rule.Unary.TheVariants as prefixes
use Rattle.gl_rulelang.specs.declared.rule.Binary.{Binary}
use Rattle.gl_rulelang.specs.declared.rule.Binary.TheVariants as ops
use Rattle.gl_rulelang.specs.declared.token.Sign.{Sign}
use Rattle.gl_rulelang.specs.declared.token.Sign.TheVariants as signs
use Rattle.gl_rulelang.specs.Tree.{Tree, text, whole, boolean, field, variable, call, row, height}
use Rattle.gl_rulelang.specs.Tokens.{Lexeme, name, string, number, operator, sign, Tokens, end, token}
use Rattle.gl_rulelang.specs.Faults.{unexpected, too_deep, Reads}
use Rattle.gl_rulelang.specs.Nesting.{deepest, Open, prefix, infix_, paren, called, performed, levels, parentheses, threshold, is_comparison, top_compares, takes_not, reduced}

-- an operand is to come: anywhere, behind the parenthesis of a call, or behind a comma
pub data Start : Type 0 where
  anywhere : Start
  first_argument : Start
  next_argument : Start

pub data Place : Type 0 where
  wants : Start → Place
  -- behind a name: of a variable or a function, or maybe of an argument
  named : List ℕ → Place
  maybe_named : List ℕ → Place
  -- behind `$message`, and behind its dot
  message : Place
  dotted : Place
  -- behind an operand
  has : Tree → Place
  -- behind a call that is an action
  acted : Tree → Place

-- what a token does
pub data Move : Type 0 where
  -- it is taken
  goes : List Open → Place → Move
  -- the expression ends before it
  ends : Tree → Move
  -- it can't follow
  stuck : Move
  -- it stands too deep
  deep : Move

-- an expression begins here
abbrev pub within : List Open → Move → Move
within stack move = if nat_lt (levels stack) deepest then move else deep

-- a parenthesis is opened here
abbrev pub opening : List Open → Move → Move
opening stack move = if nat_lt (parentheses stack) deepest then move else deep

-- the arguments of a call with its last one, where there is one
abbrev pub args_with : List (Option (List ℕ) × Tree) → Option (List ℕ) → Option Tree → List (Option (List ℕ) × Tree)
args_with given this None = given
args_with given this (Some e) = given ++ (this, e) ∷ []

-- behind a closing parenthesis
abbrev pub closed : List Open → Option Tree → Move
closed [] None = stuck
closed [] (Some e) = ends e
closed (paren ∷ stack) None = stuck
closed (paren ∷ stack) (Some e) = goes stack (has e)
closed (called f given this ∷ stack) last = goes stack (has (call f (row (args_with given this last))))
closed (performed f given this ∷ stack) last = goes stack (acted (call f (row (args_with given this last))))
closed (prefix s ∷ stack) last = stuck
closed (infix_ op e ∷ stack) last = stuck

abbrev pub after_name : Start → List ℕ → Place
after_name anywhere n = named n
after_name first_argument n = maybe_named n
after_name next_argument n = maybe_named n

abbrev pub closes_first : List Open → Start → Move
closes_first stack first_argument = closed stack None
closes_first stack _ = stuck

abbrev pub sign_begins : List Open → Start → Sign → Move
sign_begins stack start signs.True = within stack (goes stack (has (boolean true)))
sign_begins stack start signs.False = within stack (goes stack (has (boolean false)))
sign_begins stack start signs.Not = if takes_not stack then within stack (goes (prefix prefixes.Not ∷ stack) (wants anywhere)) else stuck
sign_begins stack start signs.Open = within stack (opening stack (goes (paren ∷ stack) (wants anywhere)))
sign_begins stack start signs.Message = within stack (goes stack message)
sign_begins stack start signs.Close = closes_first stack start
sign_begins stack start _ = stuck

abbrev pub operator_begins : List Open → Binary → Move
operator_begins stack ops.Minus = within stack (goes (prefix prefixes.Minus ∷ stack) (wants anywhere))
operator_begins stack _ = stuck

-- where an operand is to come
abbrev pub begins : List Open → Start → Lexeme → Move
begins stack start (string s) = within stack (goes stack (has (text s)))
begins stack start (number n) = within stack (goes stack (has (whole n)))
begins stack start (name n) = within stack (goes stack (after_name start n))
begins stack start (operator op) = operator_begins stack op
begins stack start (sign s) = sign_begins stack start s

-- a left operand and a sign behind it: the operand's expressions stand one deeper from here on
abbrev pub joined : Binary → List Open × Tree → Move
joined op r = if is_comparison op && top_compares r.0 then stuck
    else if nat_lt (levels r.0 + height r.1) deepest then goes (infix_ op r.1 ∷ r.0) (wants anywhere) else deep

abbrev pub parted : List Open × Tree → Move
parted (called f given this ∷ stack, e) = goes (called f (given ++ (this, e) ∷ []) None ∷ stack) (wants next_argument)
parted (performed f given this ∷ stack, e) = goes (performed f (given ++ (this, e) ∷ []) None ∷ stack) (wants next_argument)
parted ([], e) = ends e
parted _ = stuck

abbrev pub ended : List Open × Tree → Move
ended ([], e) = ends e
ended _ = stuck

abbrev pub sign_follows : List Open → Tree → Sign → Move
sign_follows stack e signs.Close = closed (reduced 0 stack e).0 (Some (reduced 0 stack e).1)
sign_follows stack e signs.Comma = parted (reduced 0 stack e)
sign_follows stack e _ = ended (reduced 0 stack e)

-- behind an operand
abbrev pub follows : List Open → Tree → Lexeme → Move
follows stack e (operator op) = joined op (reduced (threshold op) stack e)
follows stack e (sign s) = sign_follows stack e s
follows stack e _ = ended (reduced 0 stack e)

-- behind a name
abbrev pub name_follows : List Open → List ℕ → Lexeme → Move
name_follows stack n (sign signs.Open) = within stack (opening stack (goes (called n [] None ∷ stack) (wants first_argument)))
name_follows stack n l = follows stack (variable n) l

-- the name of an argument
abbrev pub argument_named : List Open → List ℕ → Move
argument_named (called f given this ∷ stack) n = goes (called f given (Some n) ∷ stack) (wants anywhere)
argument_named (performed f given this ∷ stack) n = goes (performed f given (Some n) ∷ stack) (wants anywhere)
argument_named _ n = stuck

abbrev pub argument_follows : List Open → List ℕ → Lexeme → Move
argument_follows stack n (sign signs.Colon) = argument_named stack n
argument_follows stack n l = name_follows stack n l

abbrev pub dot_follows : List Open → Lexeme → Move
dot_follows stack (sign signs.Dot) = goes stack dotted
dot_follows stack _ = stuck

abbrev pub field_follows : List Open → Lexeme → Move
field_follows stack (name n) = goes stack (has (field n))
field_follows stack _ = stuck

abbrev pub move : List Open → Place → Lexeme → Move
move stack (wants start) l = begins stack start l
move stack (named n) l = name_follows stack n l
move stack (maybe_named n) l = argument_follows stack n l
move stack message l = dot_follows stack l
move stack dotted l = field_follows stack l
move stack (has e) l = follows stack e l
move stack (acted e) l = ends e

abbrev pub moved : Move → (List Open → Place → Reads Tree) → Lexeme → ℕ → Tokens → Reads Tree
moved (goes stack place) next l at ts = next stack place
moved (ends e) next l at ts = Ok (e, token l at ts)
moved stuck next l at ts = Err (unexpected at)
moved deep next l at ts = Err too_deep

-- an expression and the tokens behind it
unfoldable pub run : Tokens → List Open → Place → Reads Tree
run (end at) stack place = Err (unexpected at)
run (token l at ts) stack place = moved (move stack place l) (run ts) l at ts
