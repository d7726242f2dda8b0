-- The grammar of expressions, apart from how they are read: each form with its tokens and with the tree that it means.
use Rattle.std.specs.Prelude.{◌≡◌, ◌⊎◌, ℕ, suc, ◌≤◌, max, ℤ, Bool, true, false, List, [], ◌∷◌, ◌++◌, Option, Some, None}
use Rattle.gl_rulelang.specs.declared.rule.Unary.{Unary}
use Rattle.gl_rulelang.specs.declared.rule.Unary.TheVariants as prefixes
use Rattle.gl_rulelang.specs.declared.rule.Binary.{Binary}
use Rattle.gl_rulelang.specs.declared.rule.Binary.TheVariants as ops
use Rattle.gl_rulelang.specs.declared.token.Sign.TheVariants as signs
use Rattle.gl_rulelang.specs.Tree.{Tree, text, whole, boolean, field, variable, unary, binary, call, row, Arguments, none, argument, is_operation, height}
use Rattle.gl_rulelang.specs.Tokens.{Lexeme, name, string, number, operator, sign, Tokens, end, token, first}
use Rattle.gl_rulelang.specs.Nesting.{deepest, precedence, prefix_precedence, threshold}

mutual
  pub data Form : Type 0 where
    a_string : List ℕ → Form
    a_number : ℤ → Form
    a_truth : Bool → Form
    a_field : List ℕ → Form
    a_name : List ℕ → Form
    -- a sign before its operand
    before : Unary → Form → Form
    -- a sign between its operands
    between : Binary → Form → Form → Form
    -- in parentheses
    inside : Form → Form
    -- a function's name and the arguments of its call
    calling : List ℕ → Forms → Form

  pub data Forms : Type 0 where
    no_more : Forms
    one_more : Option (List ℕ) → Form → Forms → Forms

abbrev pub truth_sign : Bool → Lexeme
truth_sign true = sign signs.True
truth_sign false = sign signs.False

abbrev pub prefix_lexeme : Unary → Lexeme
prefix_lexeme prefixes.Minus = operator ops.Minus
prefix_lexeme prefixes.Not = sign signs.Not

-- the name of an argument
abbrev pub naming : Option (List ℕ) → List Lexeme
naming None = []
naming (Some n) = name n ∷ sign signs.Colon ∷ []

-- the tokens of a form
abbrev mutual
  pub spelled : Form → List Lexeme
  spelled (a_string s) = string s ∷ []
  spelled (a_number n) = number n ∷ []
  spelled (a_truth b) = truth_sign b ∷ []
  spelled (a_field f) = sign signs.Message ∷ sign signs.Dot ∷ name f ∷ []
  spelled (a_name x) = name x ∷ []
  spelled (before s f) = prefix_lexeme s ∷ spelled f
  spelled (between op a b) = spelled a ++ operator op ∷ spelled b
  spelled (inside f) = sign signs.Open ∷ (spelled f ++ sign signs.Close ∷ [])
  spelled (calling f given) = name f ∷ sign signs.Open ∷ first_spelled given

  pub first_spelled : Forms → List Lexeme
  first_spelled no_more = sign signs.Close ∷ []
  first_spelled (one_more n f given) = naming n ++ (spelled f ++ rest_spelled given)

  pub rest_spelled : Forms → List Lexeme
  rest_spelled no_more = sign signs.Close ∷ []
  rest_spelled (one_more n f given) = sign signs.Comma ∷ (naming n ++ (spelled f ++ rest_spelled given))

-- the tree that a form means: parentheses make no level of it
abbrev mutual
  pub meant : Form → Tree
  meant (a_string s) = text s
  meant (a_number n) = whole n
  meant (a_truth b) = boolean b
  meant (a_field f) = field f
  meant (a_name x) = variable x
  meant (before s f) = unary s (meant f)
  meant (between op a b) = binary op (meant a) (meant b)
  meant (inside f) = meant f
  meant (calling f given) = call f (row (pairs given))

  pub pairs : Forms → List (Option (List ℕ) × Tree)
  pairs no_more = []
  pairs (one_more n f given) = (n, meant f) ∷ pairs given

-- how tight a form is: 0 for `||`, 1 `&&`, 2 `!`, 3 a comparison, 4 a sum, 5 a product, 6 the sign `-`, 7 without a sign outside
abbrev pub level : Form → ℕ
level (before s f) = prefix_precedence s
level (between op a b) = precedence op
level _ = 7

-- An operand is as tight as its sign asks: repetitions group to the left, and no comparison is an operand of one.
abbrev mutual
  pub IsLawful : Form → Type 0
  IsLawful (a_string s) = Unit {0}
  IsLawful (a_number n) = Unit {0}
  IsLawful (a_truth b) = Unit {0}
  IsLawful (a_field f) = Unit {0}
  IsLawful (a_name x) = Unit {0}
  IsLawful (before s f) = (prefix_precedence s ≤ level f) × IsLawful f
  IsLawful (between op a b) = (threshold op ≤ level a) × (suc (precedence op) ≤ level b) × IsLawful a × IsLawful b
  IsLawful (inside f) = IsLawful f
  IsLawful (calling f given) = AreLawful given

  pub AreLawful : Forms → Type 0
  AreLawful no_more = Unit {0}
  AreLawful (one_more n f given) = IsLawful f × AreLawful given

-- how many parentheses are open at once, those of calls counted
abbrev mutual
  pub nested : Form → ℕ
  nested (before s f) = nested f
  nested (between op a b) = max (nested a) (nested b)
  nested (inside f) = suc (nested f)
  nested (calling f given) = suc (all_nested given)
  nested _ = 0

  pub all_nested : Forms → ℕ
  all_nested no_more = 0
  all_nested (one_more n f given) = max (nested f) (all_nested given)

-- these tokens, and then others
abbrev pub Begins : List Lexeme → Tokens → Tokens → Type 0
Begins [] ts behind = ts ≡ behind
Begins (x ∷ xs) (end at) behind = ⊥
Begins (x ∷ xs) (token l at ts) behind = (l ≡ x) × Begins xs ts behind

-- what ends a condition, and an action: `then` and `;`
abbrev pub EndsExpression : Tokens → Type 0
EndsExpression ts = (first ts ≡ Some (sign signs.Then)) ⊎ (first ts ≡ Some (sign signs.Semicolon))

-- The tokens begin with those of a lawful form within the limits, which means this tree, and go on with these.
pub record Spells (ts : Tokens) (t : Tree) (behind : Tokens) : Type 0 where
  pub form : Form
  pub lawful : IsLawful form
  pub begins : Begins (spelled form) ts behind
  pub means : meant form ≡ t
  pub high : height t ≤ deepest
  pub nests : nested form ≤ deepest

-- in parentheses where it is an operation
abbrev pub operand_form : Bool → Form → Form
operand_form true f = inside f
operand_form false f = f

-- the form in which a tree is shown: an operand that is itself an operation stands in parentheses
abbrev mutual
  pub form_of : Tree → Form
  form_of (text s) = a_string s
  form_of (whole n) = a_number n
  form_of (boolean b) = a_truth b
  form_of (field f) = a_field f
  form_of (variable x) = a_name x
  form_of (unary s e) = before s (operand_form (is_operation e) (form_of e))
  form_of (binary op a b) = between op (operand_form (is_operation a) (form_of a)) (operand_form (is_operation b) (form_of b))
  form_of (call f given) = calling f (forms_of given)

  pub forms_of : Arguments → Forms
  forms_of none = no_more
  forms_of (argument n e given) = one_more n (form_of e) (forms_of given)
