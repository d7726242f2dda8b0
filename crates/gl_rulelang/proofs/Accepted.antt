-- What was read so far, as forms: whatever is accepted is spelled as a lawful form.
use Rattle.std.proofs.Common.{◌≡◌, ℕ, suc, ◌+◌, ◌-◌, ◌<◌, ◌≤◌, Bool, true, false, cond, leb, ltb, List, [], ◌∷◌, ◌++◌, Option, Some, None, Ok, Err, refl, sym, ap, ap₂, subst, ◌∙◌, append_assoc, append-nil, arith, lit≤, inl, inr, ◌⊎◌}
use Rattle.std.specs.Prelude.{◌&&◌, max}
use Rattle.std.proofs.lemmas.Bool.{leb-true, leb-false, ltb-true, ltb-false, cond_both, and_cases}
use Rattle.std.proofs.lemmas.List.Sums.{sum_by-cons}
use Rattle.gl_rulelang.specs.declared.rule.Unary.{Unary}
use Rattle.gl_rulelang.specs.declared.rule.Unary.TheVariants as prefixes
use Rattle.gl_rulelang.specs.declared.rule.Binary.{Binary}
use Rattle.gl_rulelang.specs.declared.rule.Binary.TheVariants as ops
use Rattle.gl_rulelang.specs.declared.token.Sign.{Sign}
use Rattle.gl_rulelang.specs.declared.token.Sign.TheVariants as signs
use Rattle.gl_rulelang.specs.Tree.{Tree, text, whole, boolean, field, variable, unary, binary, call, row, height, heights}
use Rattle.gl_rulelang.specs.Tokens.{Lexeme, name, string, number, operator, sign, Tokens, end, token}
use Rattle.gl_rulelang.specs.Faults.{Reads}
use Rattle.gl_rulelang.specs.Nesting.{Open, prefix, infix_, paren, called, performed, level_of, parenthesis_of, levels, parentheses, precedence, prefix_precedence, threshold, is_comparison, top_binds, top_compares, takes_not, completed, reduced}
use Rattle.gl_rulelang.specs.Expressions.{Start, anywhere, first_argument, next_argument, Place, wants, named, maybe_named, message, dotted, has, acted, Move, goes, ends, stuck, deep, within, opening, closed, args_with, sign_begins, operator_begins, begins, joined, parted, ended, sign_follows, follows, name_follows, argument_named, argument_follows, dot_follows, field_follows, move, moved, run}
use Rattle.gl_rulelang.specs.Grammar.{Form, a_string, a_number, a_truth, a_field, a_name, before, between, inside, calling, Forms, no_more, one_more, truth_sign, prefix_lexeme, naming, spelled, first_spelled, rest_spelled, meant, pairs, level, IsLawful, AreLawful, nested, all_nested, Begins}
use Rattle.gl_rulelang.proofs.Forms.{frame, frame_level, frame_levels, frame_parentheses, levels-prefix, levels-infix, levels-paren, parentheses-prefix, parentheses-infix, parentheses-paren}

-- ---- what is open, as forms

abbrev pub Given : Type 0
Given = List (Option (List ℕ) × Form)

pub data Part : Type 0 where
  sign_part : Unary → Part
  left_part : Binary → Form → Part
  paren_part : Part
  -- a call, which is an expression or an action
  call_part : Bool → List ℕ → Given → Option (List ℕ) → Part

abbrev pub means_of : Given → List (Option (List ℕ) × Tree)
means_of [] = []
means_of (a ∷ more) = (a.0, meant a.1) ∷ means_of more

abbrev pub part_open : Part → Open
part_open (sign_part s) = prefix s
part_open (left_part op a) = infix_ op (meant a)
part_open paren_part = paren
part_open (call_part kind f given this) = frame kind f (means_of given) this

abbrev pub opens : List Part → List Open
opens [] = []
opens (p ∷ ps) = part_open p ∷ opens ps

-- arguments, each with the comma behind it
abbrev pub commas : Given → List Lexeme
commas [] = []
commas (a ∷ more) = naming a.0 ++ (spelled a.1 ++ sign signs.Comma ∷ commas more)

abbrev pub part_spelled : Part → List Lexeme
part_spelled (sign_part s) = prefix_lexeme s ∷ []
part_spelled (left_part op a) = spelled a ++ operator op ∷ []
part_spelled paren_part = sign signs.Open ∷ []
part_spelled (call_part kind f given this) = name f ∷ sign signs.Open ∷ (commas given ++ naming this)

abbrev pub parts_spelled : List Part → List Lexeme
parts_spelled [] = []
parts_spelled (p ∷ ps) = parts_spelled ps ++ part_spelled p

-- how tight an operand has to be that stands here
abbrev pub need : List Part → ℕ
need [] = 0
need (sign_part s ∷ ps) = prefix_precedence s
need (left_part op a ∷ ps) = suc (precedence op)
need (paren_part ∷ ps) = 0
need (call_part kind f given this ∷ ps) = 0

abbrev pub given_lawful : Given → Type 0
given_lawful [] = Unit {0}
given_lawful (a ∷ more) = IsLawful a.1 × given_lawful more

abbrev pub given_nested : Given → ℕ
given_nested [] = 0
given_nested (a ∷ more) = max (nested a.1) (given_nested more)

pub record SignFits (s : Unary) (ps : List Part) : Type 0 where
  pub tight : need ps ≤ prefix_precedence s
  pub low : suc (levels (opens ps)) ≤ 64

pub record LeftFits (op : Binary) (a : Form) (ps : List Part) : Type 0 where
  pub tight : need ps ≤ precedence op
  pub operand : threshold op ≤ level a
  pub lawful : IsLawful a
  pub low : suc (levels (opens ps) + height (meant a)) ≤ 64
  pub few : parentheses (opens ps) + nested a ≤ 64

pub record CallFits (kind : Bool) (given : Given) (ps : List Part) : Type 0 where
  pub lawful : given_lawful given
  pub low : levels (opens ps) + (frame_level kind + heights (row (means_of given))) ≤ 64
  pub few : suc (parentheses (opens ps) + given_nested given) ≤ 64

-- an expression is read (true), or an action that is a call (false), which is outermost
abbrev pub Stacked : Bool → List Part → Type 0
Stacked kind [] = kind ≡ true
Stacked kind (sign_part s ∷ ps) = SignFits s ps × Stacked kind ps
Stacked kind (left_part op a ∷ ps) = LeftFits op a ps × Stacked kind ps
Stacked kind (paren_part ∷ ps) = (suc (parentheses (opens ps)) ≤ 64) × Stacked kind ps
Stacked kind (call_part true f given this ∷ ps) = CallFits true given ps × Stacked kind ps
Stacked kind (call_part false f given this ∷ ps) = CallFits false given ps × (ps ≡ []) × (kind ≡ false)

-- what was read behind what is open
pub data Held : Type 0 where
  wanting : Start → Held
  naming_one : List ℕ → Held
  naming_maybe : List ℕ → Held
  messaged : Held
  dotting : Held
  holding : Form → Held
  performing : List ℕ → Forms → Held

abbrev pub held_place : Held → Place
held_place (wanting start) = wants start
held_place (naming_one n) = named n
held_place (naming_maybe n) = maybe_named n
held_place messaged = message
held_place dotting = dotted
held_place (holding f) = has (meant f)
held_place (performing f given) = acted (call f (row (pairs given)))

abbrev pub held_spelled : Held → List Lexeme
held_spelled (wanting start) = []
held_spelled (naming_one n) = name n ∷ []
held_spelled (naming_maybe n) = name n ∷ []
held_spelled messaged = sign signs.Message ∷ []
held_spelled dotting = sign signs.Message ∷ sign signs.Dot ∷ []
held_spelled (holding f) = spelled f
held_spelled (performing f given) = name f ∷ sign signs.Open ∷ first_spelled given

abbrev pub IsFirst : List Part → Type 0
IsFirst (call_part kind f given this ∷ ps) = (given ≡ []) × (this ≡ None)
IsFirst _ = ⊥

abbrev pub IsNext : List Part → Type 0
IsNext (call_part kind f given this ∷ ps) = this ≡ None
IsNext _ = ⊥

abbrev pub AtStart : Start → List Part → Type 0
AtStart anywhere ps = Unit {0}
AtStart first_argument ps = IsFirst ps
AtStart next_argument ps = IsNext ps

pub record Operand (ps : List Part) (f : Form) : Type 0 where
  pub lawful : IsLawful f
  pub tight : need ps ≤ level f
  pub low : levels (opens ps) + height (meant f) ≤ 64
  pub few : parentheses (opens ps) + nested f ≤ 64

pub record CallWhole (f : List ℕ) (given : Forms) : Type 0 where
  pub lawful : AreLawful given
  pub low : heights (row (pairs given)) ≤ 64
  pub few : suc (all_nested given) ≤ 64

abbrev pub Fits : Bool → List Part → Held → Type 0
Fits kind ps (wanting start) = Stacked kind ps × AtStart start ps
Fits kind ps (naming_one n) = Stacked kind ps × (suc (levels (opens ps)) ≤ 64)
Fits kind ps (naming_maybe n) = Stacked kind ps × (suc (levels (opens ps)) ≤ 64) × IsNext ps
Fits kind ps messaged = Stacked kind ps × (suc (levels (opens ps)) ≤ 64)
Fits kind ps dotting = Stacked kind ps × (suc (levels (opens ps)) ≤ 64)
Fits kind ps (holding f) = Stacked kind ps × Operand ps f × (level f ≡ 7)
Fits kind ps (performing f given) = (ps ≡ []) × (kind ≡ false) × CallWhole f given

-- what was read when it ends
pub record IsExpression (xs : List Lexeme) (t : Tree) : Type 0 where
  pub form : Form
  pub lawful : IsLawful form
  pub spells : spelled form ≡ xs
  pub means : meant form ≡ t
  pub low : height (meant form) ≤ 64
  pub few : nested form ≤ 64

pub record IsAction (xs : List Lexeme) (t : Tree) : Type 0 where
  pub function : List ℕ
  pub given : Forms
  pub whole_call : CallWhole function given
  pub spells : name function ∷ sign signs.Open ∷ first_spelled given ≡ xs
  pub means : call function (row (pairs given)) ≡ t

abbrev pub Ended : Bool → List Lexeme → Tree → Type 0
Ended true xs t = IsExpression xs t
Ended false xs t = IsAction xs t

pub record Goes (kind : Bool) (xs : List Lexeme) (stack : List Open) (place : Place) : Type 0 where
  pub parts : List Part
  pub held : Held
  pub opened : stack ≡ opens parts
  pub at : place ≡ held_place held
  pub fits : Fits kind parts held
  pub spells : parts_spelled parts ++ held_spelled held ≡ xs

-- what a token does behind these
abbrev pub Good : Bool → List Lexeme → Lexeme → Move → Type 0
Good kind xs l (goes stack place) = Goes kind (xs ++ l ∷ []) stack place
Good kind xs l (ends e) = Ended kind xs e
Good kind xs l stuck = Unit {0}
Good kind xs l deep = Unit {0}

-- ---- numbers

need_low : (ps : List Part) → need ps ≤ 7
need_low [] = omega arith
need_low (sign_part prefixes.Not ∷ ps) = lit≤ tt
need_low (sign_part prefixes.Minus ∷ ps) = lit≤ tt
need_low (left_part op a ∷ ps) = precedence_low op
  where
    precedence_low : (op : Binary) → suc (precedence op) ≤ 7
    precedence_low ops.Or = lit≤ tt
    precedence_low ops.And = lit≤ tt
    precedence_low ops.Equal = lit≤ tt
    precedence_low ops.NotEqual = lit≤ tt
    precedence_low ops.Less = lit≤ tt
    precedence_low ops.AtMost = lit≤ tt
    precedence_low ops.Greater = lit≤ tt
    precedence_low ops.AtLeast = lit≤ tt
    precedence_low ops.Plus = lit≤ tt
    precedence_low ops.Minus = lit≤ tt
    precedence_low ops.Times = lit≤ tt
    precedence_low ops.Divide = lit≤ tt
    precedence_low ops.Remainder = lit≤ tt
need_low (paren_part ∷ ps) = omega arith
need_low (call_part kind f given this ∷ ps) = omega arith

need_minus : (ps : List Part) → need ps ≤ 6
need_minus [] = omega arith
need_minus (sign_part prefixes.Not ∷ ps) = lit≤ tt
need_minus (sign_part prefixes.Minus ∷ ps) = lit≤ tt
need_minus (left_part op a ∷ ps) = precedence_low op
  where
    precedence_low : (op : Binary) → suc (precedence op) ≤ 6
    precedence_low ops.Or = lit≤ tt
    precedence_low ops.And = lit≤ tt
    precedence_low ops.Equal = lit≤ tt
    precedence_low ops.NotEqual = lit≤ tt
    precedence_low ops.Less = lit≤ tt
    precedence_low ops.AtMost = lit≤ tt
    precedence_low ops.Greater = lit≤ tt
    precedence_low ops.AtLeast = lit≤ tt
    precedence_low ops.Plus = lit≤ tt
    precedence_low ops.Minus = lit≤ tt
    precedence_low ops.Times = lit≤ tt
    precedence_low ops.Divide = lit≤ tt
    precedence_low ops.Remainder = lit≤ tt
need_minus (paren_part ∷ ps) = omega arith
need_minus (call_part kind f given this ∷ ps) = omega arith

-- where `!` may stand, an operand may be as loose as it
not_precedence : (op : Binary) → leb (precedence op) 2 ≡ true → suc (precedence op) ≤ 2
not_precedence ops.Or h = lit≤ tt
not_precedence ops.And h = lit≤ tt
not_precedence ops.Equal h = absurd cc
not_precedence ops.NotEqual h = absurd cc
not_precedence ops.Less h = absurd cc
not_precedence ops.AtMost h = absurd cc
not_precedence ops.Greater h = absurd cc
not_precedence ops.AtLeast h = absurd cc
not_precedence ops.Plus h = absurd cc
not_precedence ops.Minus h = absurd cc
not_precedence ops.Times h = absurd cc
not_precedence ops.Divide h = absurd cc
not_precedence ops.Remainder h = absurd cc

need_not : (ps : List Part) → takes_not (opens ps) ≡ true → need ps ≤ 2
need_not [] h = omega arith
need_not (sign_part s ∷ ps) h = leb-true (prefix_precedence s) 2 h
need_not (left_part op a ∷ ps) h = not_precedence op h
need_not (paren_part ∷ ps) h = omega arith
need_not (call_part kind f given this ∷ ps) h = omega arith

threshold_gap : (op : Binary) → threshold op ≤ suc (precedence op)
threshold_gap ops.Or = lit≤ tt
threshold_gap ops.And = lit≤ tt
threshold_gap ops.Equal = lit≤ tt
threshold_gap ops.NotEqual = lit≤ tt
threshold_gap ops.Less = lit≤ tt
threshold_gap ops.AtMost = lit≤ tt
threshold_gap ops.Greater = lit≤ tt
threshold_gap ops.AtLeast = lit≤ tt
threshold_gap ops.Plus = lit≤ tt
threshold_gap ops.Minus = lit≤ tt
threshold_gap ops.Times = lit≤ tt
threshold_gap ops.Divide = lit≤ tt
threshold_gap ops.Remainder = lit≤ tt

-- no comparison, then its threshold is its precedence
plain_threshold : (op : Binary) → is_comparison op ≡ false → threshold op ≤ precedence op
plain_threshold ops.Or h = lit≤ tt
plain_threshold ops.And h = lit≤ tt
plain_threshold ops.Equal h = absurd cc
plain_threshold ops.NotEqual h = absurd cc
plain_threshold ops.Less h = absurd cc
plain_threshold ops.AtMost h = absurd cc
plain_threshold ops.Greater h = absurd cc
plain_threshold ops.AtLeast h = absurd cc
plain_threshold ops.Plus h = lit≤ tt
plain_threshold ops.Minus h = lit≤ tt
plain_threshold ops.Times h = lit≤ tt
plain_threshold ops.Divide h = lit≤ tt
plain_threshold ops.Remainder h = lit≤ tt

-- no comparison is as tight as one
sides : (op : Binary) → is_comparison op ≡ false → (precedence op ≤ 2) ⊎ (4 ≤ precedence op)
sides ops.Or h = inl (lit≤ tt)
sides ops.And h = inl (lit≤ tt)
sides ops.Equal h = absurd cc
sides ops.NotEqual h = absurd cc
sides ops.Less h = absurd cc
sides ops.AtMost h = absurd cc
sides ops.Greater h = absurd cc
sides ops.AtLeast h = absurd cc
sides ops.Plus h = inr (lit≤ tt)
sides ops.Minus h = inr (lit≤ tt)
sides ops.Times h = inr (lit≤ tt)
sides ops.Divide h = inr (lit≤ tt)
sides ops.Remainder h = inr (lit≤ tt)

by_other : (other : Binary) (p : ℕ) → (p ≤ 2) ⊎ (4 ≤ p) → p < threshold other → suc p ≤ precedence other
by_other ops.Or p c lt = lt
by_other ops.And p c lt = lt
by_other ops.Equal p (inl c) lt = omega arith
by_other ops.Equal p (inr c) lt = absurd (omega (arith, lt))
by_other ops.NotEqual p (inl c) lt = omega arith
by_other ops.NotEqual p (inr c) lt = absurd (omega (arith, lt))
by_other ops.Less p (inl c) lt = omega arith
by_other ops.Less p (inr c) lt = absurd (omega (arith, lt))
by_other ops.AtMost p (inl c) lt = omega arith
by_other ops.AtMost p (inr c) lt = absurd (omega (arith, lt))
by_other ops.Greater p (inl c) lt = omega arith
by_other ops.Greater p (inr c) lt = absurd (omega (arith, lt))
by_other ops.AtLeast p (inl c) lt = omega arith
by_other ops.AtLeast p (inr c) lt = absurd (omega (arith, lt))
by_other ops.Plus p c lt = lt
by_other ops.Minus p c lt = lt
by_other ops.Times p c lt = lt
by_other ops.Divide p c lt = lt
by_other ops.Remainder p c lt = lt

-- behind a left operand, what is open asks for no tighter operand than this operation is
need_left : (op : Binary) (ps : List Part) → top_binds (threshold op) (opens ps) ≡ false → (is_comparison op && top_compares (opens ps)) ≡ false → need ps ≤ precedence op
need_left op [] b c = omega arith
need_left op (sign_part s ∷ ps) b c = let lt = leb-false (threshold op) (prefix_precedence s) b in let gap = threshold_gap op in omega (arith, lt, gap)
need_left op (left_part other a ∷ ps) b c =
    let lt : precedence other < threshold op = leb-false (threshold op) (precedence other) b in
    elim (and_cases (is_comparison op) (is_comparison other) c) [
      | inl plain ↦ let low = plain_threshold op plain in omega (arith, lt, low)
      | inr plain ↦ by_other op (precedence other) (sides other plain) lt
    ]
need_left op (paren_part ∷ ps) b c = omega arith
need_left op (call_part kind f given this ∷ ps) b c = omega arith

-- ---- how deep

-- ---- the arguments of a call

-- these arguments, and then a last one
abbrev pub ending : Given → Option (List ℕ) → Form → Forms
ending [] this f = one_more this f no_more
ending (a ∷ more) this f = one_more a.0 a.1 (ending more this f)

ending_pairs : (given : Given) (this : Option (List ℕ)) (f : Form) → pairs (ending given this f) ≡ means_of given ++ (this, meant f) ∷ []
ending_pairs [] this f = refl
ending_pairs (a ∷ more) this f = ap (λ (x : List (Option (List ℕ) × Tree)). (a.0, meant a.1) ∷ x) (ending_pairs more this f)

ending_rest : (given : Given) (this : Option (List ℕ)) (f : Form) → rest_spelled (ending given this f) ≡ sign signs.Comma ∷ first_spelled (ending given this f)
ending_rest [] this f = refl
ending_rest (a ∷ more) this f = refl

ending_spelled : (given : Given) (this : Option (List ℕ)) (f : Form) → first_spelled (ending given this f) ≡ commas given ++ (naming this ++ (spelled f ++ sign signs.Close ∷ []))
ending_spelled [] this f = refl
ending_spelled (a ∷ more) this f =
    let e : rest_spelled (ending more this f) ≡ sign signs.Comma ∷ (commas more ++ (naming this ++ (spelled f ++ sign signs.Close ∷ [])))
    = ending_rest more this f ∙ ap (λ (x : List Lexeme). sign signs.Comma ∷ x) (ending_spelled more this f) in
    ap (λ (x : List Lexeme). naming a.0 ++ (spelled a.1 ++ x)) e
    ∙ ap (λ (x : List Lexeme). naming a.0 ++ x) (sym (append_assoc (spelled a.1) (sign signs.Comma ∷ commas more) (naming this ++ (spelled f ++ sign signs.Close ∷ []))))
    ∙ sym (append_assoc (naming a.0) (spelled a.1 ++ sign signs.Comma ∷ commas more) (naming this ++ (spelled f ++ sign signs.Close ∷ [])))

ending_lawful : (given : Given) (this : Option (List ℕ)) (f : Form) → given_lawful given → IsLawful f → AreLawful (ending given this f)
ending_lawful [] this f g l = (l, tt)
ending_lawful (a ∷ more) this f g l = (g.0, ending_lawful more this f g.1 l)

ending_heights : (given : Given) (this : Option (List ℕ)) (f : Form) (n : ℕ) → heights (row (means_of given)) ≤ n → height (meant f) ≤ n → heights (row (pairs (ending given this f))) ≤ n
ending_heights [] this f n g h = omega (arith, h)
ending_heights (a ∷ more) this f n g h = let rest = ending_heights more this f n (omega (arith, g)) h in omega (arith, g, rest)

ending_nested : (given : Given) (this : Option (List ℕ)) (f : Form) (n : ℕ) → given_nested given ≤ n → nested f ≤ n → all_nested (ending given this f) ≤ n
ending_nested [] this f n g h = omega (arith, h)
ending_nested (a ∷ more) this f n g h = let rest = ending_nested more this f n (omega (arith, g)) h in omega (arith, g, rest)

push_means : (given : Given) (this : Option (List ℕ)) (f : Form) → means_of (given ++ (this, f) ∷ []) ≡ means_of given ++ (this, meant f) ∷ []
push_means [] this f = refl
push_means (a ∷ more) this f = ap (λ (x : List (Option (List ℕ) × Tree)). (a.0, meant a.1) ∷ x) (push_means more this f)

push_commas : (given : Given) (this : Option (List ℕ)) (f : Form) → commas (given ++ (this, f) ∷ []) ≡ commas given ++ (naming this ++ (spelled f ++ sign signs.Comma ∷ []))
push_commas [] this f = refl
push_commas (a ∷ more) this f =
    ap (λ (x : List Lexeme). naming a.0 ++ (spelled a.1 ++ sign signs.Comma ∷ x)) (push_commas more this f)
    ∙ ap (λ (x : List Lexeme). naming a.0 ++ x) (sym (append_assoc (spelled a.1) (sign signs.Comma ∷ commas more) (naming this ++ (spelled f ++ sign signs.Comma ∷ []))))
    ∙ sym (append_assoc (naming a.0) (spelled a.1 ++ sign signs.Comma ∷ commas more) (naming this ++ (spelled f ++ sign signs.Comma ∷ [])))

push_lawful : (given : Given) (this : Option (List ℕ)) (f : Form) → given_lawful given → IsLawful f → given_lawful (given ++ (this, f) ∷ [])
push_lawful [] this f g l = (l, tt)
push_lawful (a ∷ more) this f g l = (g.0, push_lawful more this f g.1 l)

push_heights : (given : Given) (this : Option (List ℕ)) (f : Form) (n : ℕ) → heights (row (means_of given)) ≤ n → height (meant f) ≤ n → heights (row (means_of (given ++ (this, f) ∷ []))) ≤ n
push_heights [] this f n g h = omega (arith, h)
push_heights (a ∷ more) this f n g h = let rest = push_heights more this f n (omega (arith, g)) h in omega (arith, g, rest)

push_nested : (given : Given) (this : Option (List ℕ)) (f : Form) (n : ℕ) → given_nested given ≤ n → nested f ≤ n → given_nested (given ++ (this, f) ∷ []) ≤ n
push_nested [] this f n g h = omega (arith, h)
push_nested (a ∷ more) this f n g h = let rest = push_nested more this f n (omega (arith, g)) h in omega (arith, g, rest)

-- ---- completing operations

pub record Reduced (kind : Bool) (k : ℕ) (xs : List Lexeme) (r : List Open × Tree) : Type 0 where
  pub parts : List Part
  pub form : Form
  pub opened : r ≡ (opens parts, meant form)
  pub stacked : Stacked kind parts
  pub operand : Operand parts form
  pub least : k ≤ level form
  pub stays : top_binds k (opens parts) ≡ false
  pub spells : parts_spelled parts ++ spelled form ≡ xs

respelled : (kind : Bool) (k : ℕ) (xs ys : List Lexeme) (r : List Open × Tree) → xs ≡ ys → Reduced kind k xs r → Reduced kind k ys r
respelled kind k xs ys r e d = record { parts = d.parts; form = d.form; opened = d.opened; stacked = d.stacked; operand = d.operand; least = d.least; stays = d.stays; spells = d.spells ∙ e }

pub reduces : (kind : Bool) (k : ℕ) (ps : List Part) (f : Form) → Stacked kind ps → Operand ps f → k ≤ level f → Reduced kind k (parts_spelled ps ++ spelled f) (reduced k (opens ps) (meant f))
reduces kind k [] f st op le = record { parts = []; form = f; opened = refl; stacked = st; operand = op; least = le; stays = refl; spells = refl }
reduces kind k (sign_part s ∷ ps) f st op le =
    let up = levels-prefix s (opens ps) in let side = parentheses-prefix s (opens ps) in
    cond_both (leb k (prefix_precedence s)) (reduced k (opens ps) (unary s (meant f))) (prefix s ∷ opens ps, meant f) (Reduced kind k (parts_spelled (sign_part s ∷ ps) ++ spelled f))
    (λ t. respelled kind k (parts_spelled ps ++ prefix_lexeme s ∷ spelled f) (parts_spelled (sign_part s ∷ ps) ++ spelled f) _ (sym (append_assoc (parts_spelled ps) (prefix_lexeme s ∷ []) (spelled f)))
    (reduces kind k ps (before s f) st.1
    (record { lawful = (op.tight, op.lawful); tight = st.0.tight; low = omega (arith, op.low, up); few = omega (arith, op.few, side) }) (leb-true k (prefix_precedence s) t)))
    (λ t. record { parts = sign_part s ∷ ps; form = f; opened = refl; stacked = st; operand = op; least = le; stays = t; spells = refl })
reduces kind k (left_part o a ∷ ps) f st op le =
    let up = levels-infix o (meant a) (opens ps) in let side = parentheses-infix o (meant a) (opens ps) in
    cond_both (leb k (precedence o)) (reduced k (opens ps) (binary o (meant a) (meant f))) (infix_ o (meant a) ∷ opens ps, meant f) (Reduced kind k (parts_spelled (left_part o a ∷ ps) ++ spelled f))
    (λ t. respelled kind k (parts_spelled ps ++ (spelled a ++ operator o ∷ spelled f)) (parts_spelled (left_part o a ∷ ps) ++ spelled f) _
    (ap (λ (x : List Lexeme). parts_spelled ps ++ x) (sym (append_assoc (spelled a) (operator o ∷ []) (spelled f))) ∙ sym (append_assoc (parts_spelled ps) (spelled a ++ operator o ∷ []) (spelled f)))
    (reduces kind k ps (between o a f) st.1
    (record { lawful = (st.0.operand, op.tight, st.0.lawful, op.lawful); tight = st.0.tight; low = omega (arith, op.low, up, st.0.low); few = omega (arith, op.few, side, st.0.few) }) (leb-true k (precedence o) t)))
    (λ t. record { parts = left_part o a ∷ ps; form = f; opened = refl; stacked = st; operand = op; least = le; stays = t; spells = refl })
reduces kind k (paren_part ∷ ps) f st op le = record { parts = paren_part ∷ ps; form = f; opened = refl; stacked = st; operand = op; least = le; stays = refl; spells = refl }
reduces kind k (call_part true g given this ∷ ps) f st op le = record { parts = call_part true g given this ∷ ps; form = f; opened = refl; stacked = st; operand = op; least = le; stays = refl; spells = refl }
reduces kind k (call_part false g given this ∷ ps) f st op le = record { parts = call_part false g given this ∷ ps; form = f; opened = refl; stacked = st; operand = op; least = le; stays = refl; spells = refl }

-- ---- what one token does

within_good : (kind : Bool) (xs : List Lexeme) (l : Lexeme) (stack : List Open) (m : Move) → (suc (levels stack) ≤ 64 → Good kind xs l m) → Good kind xs l (within stack m)
within_good kind xs l stack m h = cond_both (ltb (levels stack) 64) m deep (Good kind xs l) (λ t. h (ltb-true (levels stack) 64 t)) (λ t. tt)

opening_good : (kind : Bool) (xs : List Lexeme) (l : Lexeme) (stack : List Open) (m : Move) → (suc (parentheses stack) ≤ 64 → Good kind xs l m) → Good kind xs l (opening stack m)
opening_good kind xs l stack m h = cond_both (ltb (parentheses stack) 64) m deep (Good kind xs l) (λ t. h (ltb-true (parentheses stack) 64 t)) (λ t. tt)

stacked_few : (kind : Bool) (ps : List Part) → Stacked kind ps → parentheses (opens ps) ≤ 64
stacked_few kind [] st = omega arith
stacked_few kind (sign_part s ∷ ps) st = let below = stacked_few kind ps st.1 in let side = parentheses-prefix s (opens ps) in omega (arith, below, side)
stacked_few kind (left_part op a ∷ ps) st = let below = stacked_few kind ps st.1 in let side = parentheses-infix op (meant a) (opens ps) in omega (arith, below, side)
stacked_few kind (paren_part ∷ ps) st = let side = parentheses-paren (opens ps) in omega (arith, st.0, side)
stacked_few kind (call_part true f given this ∷ ps) st = let side = frame_parentheses true f (means_of given) this (opens ps) in omega (arith, st.0.few, side)
stacked_few kind (call_part false f given this ∷ ps) st = let side = frame_parentheses false f (means_of given) this (opens ps) in omega (arith, st.0.few, side)

holds : (kind : Bool) (ps : List Part) (f : Form) (l : Lexeme) → spelled f ≡ l ∷ [] → Stacked kind ps → IsLawful f → level f ≡ 7 → height (meant f) ≡ 1 → nested f ≡ 0 → suc (levels (opens ps)) ≤ 64
    → Good kind (parts_spelled ps) l (goes (opens ps) (has (meant f)))
holds kind ps f l e st lawful whole_level high none low =
    let few = stacked_few kind ps st in let tight = need_low ps in
    record {
      parts = ps;
      held = holding f;
      opened = refl;
      at = refl;
      fits = (st, record { lawful = lawful; tight = omega (arith, tight, whole_level); low = omega (arith, low, high); few = omega (arith, few, none) }, whole_level);
      spells = ap (λ (x : List Lexeme). parts_spelled ps ++ x) e;
    }

first_next : (ps : List Part) → IsFirst ps → IsNext ps
first_next [] h = absurd h
first_next (sign_part s ∷ ps) h = absurd h
first_next (left_part op a ∷ ps) h = absurd h
first_next (paren_part ∷ ps) h = absurd h
first_next (call_part kind f given this ∷ ps) h = h.1

shuts_first : (kind k : Bool) (f : List ℕ) (given : Given) (this : Option (List ℕ)) (ps : List Part) → Stacked kind (call_part k f given this ∷ ps) → given ≡ [] → this ≡ None
    → Good kind (parts_spelled (call_part k f given this ∷ ps)) (sign signs.Close) (closed (frame k f (means_of given) this ∷ opens ps) None)
shuts_first kind k f (a ∷ more) this ps st e d = absurd cc
shuts_first kind k f [] (Some n) ps st e d = absurd cc
shuts_first kind true f [] None ps st e d = record {
  parts = ps;
  held = holding (calling f no_more);
  opened = refl;
  at = refl;
  fits = (st.1, record { lawful = tt; tight = need_low ps; low = omega (arith, st.0.low); few = omega (arith, st.0.few) }, refl);
  spells = sym (append_assoc (parts_spelled ps) (name f ∷ sign signs.Open ∷ []) (sign signs.Close ∷ []));
}
shuts_first kind false f [] None ps st e d = record {
  parts = ps;
  held = performing f no_more;
  opened = refl;
  at = refl;
  fits = (st.1, st.2, record { lawful = tt; low = omega arith; few = omega arith });
  spells = sym (append_assoc (parts_spelled ps) (name f ∷ sign signs.Open ∷ []) (sign signs.Close ∷ []));
}

closes_good : (kind : Bool) (ps : List Part) → Stacked kind ps → IsFirst ps → Good kind (parts_spelled ps) (sign signs.Close) (closed (opens ps) None)
closes_good kind [] st h = absurd h
closes_good kind (sign_part s ∷ ps) st h = absurd h
closes_good kind (left_part op a ∷ ps) st h = absurd h
closes_good kind (paren_part ∷ ps) st h = absurd h
closes_good kind (call_part k f given this ∷ ps) st h = shuts_first kind k f given this ps st h.0 h.1

prefix_good : (kind : Bool) (ps : List Part) (s : Unary) → Stacked kind ps → need ps ≤ prefix_precedence s → suc (levels (opens ps)) ≤ 64
    → Good kind (parts_spelled ps) (prefix_lexeme s) (goes (prefix s ∷ opens ps) (wants anywhere))
prefix_good kind ps s st tight low = record {
  parts = sign_part s ∷ ps;
  held = wanting anywhere;
  opened = refl;
  at = refl;
  fits = ((record { tight = tight; low = low }, st), tt);
  spells = append-nil (parts_spelled ps ++ prefix_lexeme s ∷ []);
}

paren_good : (kind : Bool) (ps : List Part) → Stacked kind ps → suc (parentheses (opens ps)) ≤ 64 → Good kind (parts_spelled ps) (sign signs.Open) (goes (paren ∷ opens ps) (wants anywhere))
paren_good kind ps st few = record {
  parts = paren_part ∷ ps;
  held = wanting anywhere;
  opened = refl;
  at = refl;
  fits = ((few, st), tt);
  spells = append-nil (parts_spelled ps ++ sign signs.Open ∷ []);
}

sign_begins_good : (kind : Bool) (ps : List Part) (start : Start) (s : Sign) → Stacked kind ps → AtStart start ps → Good kind (parts_spelled ps) (sign s) (sign_begins (opens ps) start s)
sign_begins_good kind ps start signs.True st a = within_good kind _ _ (opens ps) _ (λ low. holds kind ps (a_truth true) (sign signs.True) refl st tt refl refl refl low)
sign_begins_good kind ps start signs.False st a = within_good kind _ _ (opens ps) _ (λ low. holds kind ps (a_truth false) (sign signs.False) refl st tt refl refl refl low)
sign_begins_good kind ps start signs.Not st a =
    cond_both (takes_not (opens ps)) (within (opens ps) (goes (prefix prefixes.Not ∷ opens ps) (wants anywhere))) stuck (Good kind (parts_spelled ps) (sign signs.Not))
    (λ t. within_good kind _ _ (opens ps) _ (λ low. prefix_good kind ps prefixes.Not st (need_not ps t) low)) (λ t. tt)
sign_begins_good kind ps start signs.Open st a = within_good kind _ _ (opens ps) _ (λ low. opening_good kind _ _ (opens ps) _ (λ few. paren_good kind ps st few))
sign_begins_good kind ps start signs.Message st a = within_good kind _ _ (opens ps) _ (λ low. record { parts = ps; held = messaged; opened = refl; at = refl; fits = (st, low); spells = refl })
sign_begins_good kind ps anywhere signs.Close st a = tt
sign_begins_good kind ps first_argument signs.Close st a = closes_good kind ps st a
sign_begins_good kind ps next_argument signs.Close st a = tt
sign_begins_good kind ps start _ st a = tt

operator_begins_good : (kind : Bool) (ps : List Part) (op : Binary) → Stacked kind ps → Good kind (parts_spelled ps) (operator op) (operator_begins (opens ps) op)
operator_begins_good kind ps ops.Minus st = within_good kind _ _ (opens ps) _ (λ low. prefix_good kind ps prefixes.Minus st (need_minus ps) low)
operator_begins_good kind ps _ st = tt

begins_good : (kind : Bool) (ps : List Part) (start : Start) (l : Lexeme) → Stacked kind ps → AtStart start ps → Good kind (parts_spelled ps) l (begins (opens ps) start l)
begins_good kind ps start (string s) st a = within_good kind _ _ (opens ps) _ (λ low. holds kind ps (a_string s) (string s) refl st tt refl refl refl low)
begins_good kind ps start (number n) st a = within_good kind _ _ (opens ps) _ (λ low. holds kind ps (a_number n) (number n) refl st tt refl refl refl low)
begins_good kind ps anywhere (name n) st a = within_good kind _ _ (opens ps) _ (λ low. record { parts = ps; held = naming_one n; opened = refl; at = refl; fits = (st, low); spells = refl })
begins_good kind ps first_argument (name n) st a = within_good kind _ _ (opens ps) _ (λ low. record { parts = ps; held = naming_maybe n; opened = refl; at = refl; fits = (st, low, first_next ps a); spells = refl })
begins_good kind ps next_argument (name n) st a = within_good kind _ _ (opens ps) _ (λ low. record { parts = ps; held = naming_maybe n; opened = refl; at = refl; fits = (st, low, a); spells = refl })
begins_good kind ps start (operator op) st a = operator_begins_good kind ps op st
begins_good kind ps start (sign s) st a = sign_begins_good kind ps start s st a

-- ---- behind an operand

regroup_call : (a c n s k : List Lexeme) (x y : Lexeme) → ((a ++ x ∷ y ∷ (c ++ n)) ++ s) ++ k ≡ a ++ x ∷ y ∷ (c ++ (n ++ (s ++ k)))
regroup_call a c n s k x y = simp append_assoc

regroup_paren : (a s k : List Lexeme) (x : Lexeme) → ((a ++ x ∷ []) ++ s) ++ k ≡ a ++ x ∷ (s ++ k)
regroup_paren a s k x = simp append_assoc

threshold_low : (op : Binary) → threshold op ≤ 7
threshold_low op = let gap = threshold_gap op in low op gap
  where
    low : (op : Binary) → threshold op ≤ suc (precedence op) → threshold op ≤ 7
    low ops.Or g = lit≤ tt
    low ops.And g = lit≤ tt
    low ops.Equal g = lit≤ tt
    low ops.NotEqual g = lit≤ tt
    low ops.Less g = lit≤ tt
    low ops.AtMost g = lit≤ tt
    low ops.Greater g = lit≤ tt
    low ops.AtLeast g = lit≤ tt
    low ops.Plus g = lit≤ tt
    low ops.Minus g = lit≤ tt
    low ops.Times g = lit≤ tt
    low ops.Divide g = lit≤ tt
    low ops.Remainder g = lit≤ tt

joins_good : (kind : Bool) (op : Binary) (ps : List Part) (f : Form) (xs : List Lexeme) → Stacked kind ps → Operand ps f → threshold op ≤ level f → top_binds (threshold op) (opens ps) ≡ false → parts_spelled ps ++ spelled f ≡ xs
    → Good kind xs (operator op) (joined op (opens ps, meant f))
joins_good kind op ps f xs st o least stays e =
    cond_both (is_comparison op && top_compares (opens ps)) stuck (cond (ltb (levels (opens ps) + height (meant f)) 64) (goes (infix_ op (meant f) ∷ opens ps) (wants anywhere)) deep) (Good kind xs (operator op))
    (λ t. tt)
    (λ c. cond_both (ltb (levels (opens ps) + height (meant f)) 64) (goes (infix_ op (meant f) ∷ opens ps) (wants anywhere)) deep (Good kind xs (operator op))
    (λ t. record {
      parts = left_part op f ∷ ps;
      held = wanting anywhere;
      opened = refl;
      at = refl;
      fits = ((record { tight = need_left op ps stays c; operand = least; lawful = o.lawful; low = ltb-true (levels (opens ps) + height (meant f)) 64 t; few = o.few }, st), tt);
      spells = append-nil (parts_spelled ps ++ (spelled f ++ operator op ∷ [])) ∙ sym (append_assoc (parts_spelled ps) (spelled f) (operator op ∷ [])) ∙ ap (λ (x : List Lexeme). x ++ operator op ∷ []) e;
    })
    (λ t. tt))

ends_good : (kind : Bool) (f : Form) (xs : List Lexeme) (l : Lexeme) → Stacked kind [] → Operand [] f → spelled f ≡ xs → Good kind xs l (ends (meant f))
ends_good true f xs l st o e = record { form = f; lawful = o.lawful; spells = e; means = refl; low = omega (arith, o.low); few = omega (arith, o.few) }
ends_good false f xs l st o e = absurd cc

ended_good : (kind : Bool) (ps : List Part) (f : Form) (xs : List Lexeme) (l : Lexeme) → Stacked kind ps → Operand ps f → parts_spelled ps ++ spelled f ≡ xs → Good kind xs l (ended (opens ps, meant f))
ended_good kind [] f xs l st o e = ends_good kind f xs l st o e
ended_good kind (sign_part s ∷ ps) f xs l st o e = tt
ended_good kind (left_part op a ∷ ps) f xs l st o e = tt
ended_good kind (paren_part ∷ ps) f xs l st o e = tt
ended_good kind (call_part true g given this ∷ ps) f xs l st o e = tt
ended_good kind (call_part false g given this ∷ ps) f xs l st o e = tt

-- one more argument
more_fits : (kind : Bool) (g : List ℕ) (given : Given) (this : Option (List ℕ)) (ps : List Part) (f : Form) → CallFits kind given ps → Operand (call_part kind g given this ∷ ps) f → CallFits kind (given ++ (this, f) ∷ []) ps
more_fits kind g given this ps f c o =
    let up = frame_levels kind g (means_of given) this (opens ps) in let side = frame_parentheses kind g (means_of given) this (opens ps) in
    let high = push_heights given this f (64 - (frame_level kind + levels (opens ps))) (omega (arith, c.low)) (omega (arith, o.low, up)) in
    let wide = push_nested given this f (63 - parentheses (opens ps)) (omega (arith, c.few)) (omega (arith, o.few, side)) in
    record { lawful = push_lawful given this f c.lawful o.lawful; low = omega (arith, high, c.low); few = omega (arith, wide, c.few) }

more_spelled : (a : List Lexeme) (g : List ℕ) (given : Given) (this : Option (List ℕ)) (f : Form) (xs : List Lexeme) → (a ++ name g ∷ sign signs.Open ∷ (commas given ++ naming this)) ++ spelled f ≡ xs
    → (a ++ name g ∷ sign signs.Open ∷ (commas (given ++ (this, f) ∷ []) ++ [])) ++ [] ≡ xs ++ sign signs.Comma ∷ []
more_spelled a g given this f xs e =
    append-nil (a ++ name g ∷ sign signs.Open ∷ (commas (given ++ (this, f) ∷ []) ++ []))
    ∙ ap (λ (x : List Lexeme). a ++ name g ∷ sign signs.Open ∷ x) (append-nil (commas (given ++ (this, f) ∷ [])) ∙ push_commas given this f)
    ∙ sym (regroup_call a (commas given) (naming this) (spelled f) (sign signs.Comma ∷ []) (name g) (sign signs.Open))
    ∙ ap (λ (x : List Lexeme). x ++ sign signs.Comma ∷ []) e

parted_good : (kind : Bool) (ps : List Part) (f : Form) (xs : List Lexeme) → Stacked kind ps → Operand ps f → parts_spelled ps ++ spelled f ≡ xs → Good kind xs (sign signs.Comma) (parted (opens ps, meant f))
parted_good kind [] f xs st o e = ends_good kind f xs (sign signs.Comma) st o e
parted_good kind (sign_part s ∷ ps) f xs st o e = tt
parted_good kind (left_part op a ∷ ps) f xs st o e = tt
parted_good kind (paren_part ∷ ps) f xs st o e = tt
parted_good kind (call_part true g given this ∷ ps) f xs st o e = record {
  parts = call_part true g (given ++ (this, f) ∷ []) None ∷ ps;
  held = wanting next_argument;
  opened = ap (λ (x : List (Option (List ℕ) × Tree)). called g x None ∷ opens ps) (sym (push_means given this f));
  at = refl;
  fits = ((more_fits true g given this ps f st.0 o, st.1), refl);
  spells = more_spelled (parts_spelled ps) g given this f xs e;
}
parted_good kind (call_part false g given this ∷ ps) f xs st o e = record {
  parts = call_part false g (given ++ (this, f) ∷ []) None ∷ ps;
  held = wanting next_argument;
  opened = ap (λ (x : List (Option (List ℕ) × Tree)). performed g x None ∷ opens ps) (sym (push_means given this f));
  at = refl;
  fits = ((more_fits false g given this ps f st.0 o, st.1, st.2), refl);
  spells = more_spelled (parts_spelled ps) g given this f xs e;
}

last_spelled : (a : List Lexeme) (g : List ℕ) (given : Given) (this : Option (List ℕ)) (f : Form) (xs : List Lexeme) → (a ++ name g ∷ sign signs.Open ∷ (commas given ++ naming this)) ++ spelled f ≡ xs
    → a ++ name g ∷ sign signs.Open ∷ first_spelled (ending given this f) ≡ xs ++ sign signs.Close ∷ []
last_spelled a g given this f xs e =
    ap (λ (x : List Lexeme). a ++ name g ∷ sign signs.Open ∷ x) (ending_spelled given this f)
    ∙ sym (regroup_call a (commas given) (naming this) (spelled f) (sign signs.Close ∷ []) (name g) (sign signs.Open))
    ∙ ap (λ (x : List Lexeme). x ++ sign signs.Close ∷ []) e

closed_good : (kind : Bool) (ps : List Part) (f : Form) (xs : List Lexeme) → Stacked kind ps → Operand ps f → parts_spelled ps ++ spelled f ≡ xs → Good kind xs (sign signs.Close) (closed (opens ps) (Some (meant f)))
closed_good kind [] f xs st o e = ends_good kind f xs (sign signs.Close) st o e
closed_good kind (sign_part s ∷ ps) f xs st o e = tt
closed_good kind (left_part op a ∷ ps) f xs st o e = tt
closed_good kind (paren_part ∷ ps) f xs st o e =
    let up = levels-paren (opens ps) in let side = parentheses-paren (opens ps) in
    record {
      parts = ps;
      held = holding (inside f);
      opened = refl;
      at = refl;
      fits = (st.1, record { lawful = o.lawful; tight = need_low ps; low = omega (arith, o.low, up); few = omega (arith, o.few, side) }, refl);
      spells = sym (regroup_paren (parts_spelled ps) (spelled f) (sign signs.Close ∷ []) (sign signs.Open)) ∙ ap (λ (x : List Lexeme). x ++ sign signs.Close ∷ []) e;
    }
closed_good kind (call_part true g given this ∷ ps) f xs st o e =
    let up = frame_levels true g (means_of given) this (opens ps) in let side = frame_parentheses true g (means_of given) this (opens ps) in
    let high = ending_heights given this f (63 - levels (opens ps)) (omega (arith, st.0.low)) (omega (arith, o.low, up)) in
    let wide = ending_nested given this f (63 - parentheses (opens ps)) (omega (arith, st.0.few)) (omega (arith, o.few, side)) in
    record {
      parts = ps;
      held = holding (calling g (ending given this f));
      opened = refl;
      at = ap (λ (x : List (Option (List ℕ) × Tree)). has (call g (row x))) (sym (ending_pairs given this f));
      fits = (st.1, record { lawful = ending_lawful given this f st.0.lawful o.lawful; tight = need_low ps; low = omega (arith, high, st.0.low); few = omega (arith, wide, st.0.few) }, refl);
      spells = last_spelled (parts_spelled ps) g given this f xs e;
    }
closed_good kind (call_part false g given this ∷ ps) f xs st o e =
    let up = frame_levels false g (means_of given) this (opens ps) in let side = frame_parentheses false g (means_of given) this (opens ps) in
    let high = ending_heights given this f 64 (omega (arith, st.0.low)) (omega (arith, o.low)) in
    let wide = ending_nested given this f (63 - parentheses (opens ps)) (omega (arith, st.0.few)) (omega (arith, o.few, side)) in
    record {
      parts = ps;
      held = performing g (ending given this f);
      opened = refl;
      at = ap (λ (x : List (Option (List ℕ) × Tree)). acted (call g (row x))) (sym (ending_pairs given this f));
      fits = (st.1, st.2, record { lawful = ending_lawful given this f st.0.lawful o.lawful; low = high; few = omega (arith, wide, st.0.few) });
      spells = last_spelled (parts_spelled ps) g given this f xs e;
    }

operand_level : (ps : List Part) (f : Form) (k : ℕ) → level f ≡ 7 → k ≤ 7 → k ≤ level f
operand_level ps f k e low = omega arith

completes_good : (kind : Bool) (ps : List Part) (f : Form) (l : Lexeme) (next : List Open × Tree → Move) → Stacked kind ps → Operand ps f → level f ≡ 7
    → ((qs : List Part) (g : Form) → Stacked kind qs → Operand qs g → parts_spelled qs ++ spelled g ≡ parts_spelled ps ++ spelled f → Good kind (parts_spelled ps ++ spelled f) l (next (opens qs, meant g)))
    → Good kind (parts_spelled ps ++ spelled f) l (next (reduced 0 (opens ps) (meant f)))
completes_good kind ps f l next st o whole_level h =
    let r = reduces kind 0 ps f st o (omega arith) in
    subst (λ (x : List Open × Tree). Good kind (parts_spelled ps ++ spelled f) l (next x)) (sym r.opened) (h r.parts r.form r.stacked r.operand r.spells)

sign_follows_good : (kind : Bool) (ps : List Part) (f : Form) (s : Sign) → Stacked kind ps → Operand ps f → level f ≡ 7 → Good kind (parts_spelled ps ++ spelled f) (sign s) (sign_follows (opens ps) (meant f) s)
sign_follows_good kind ps f signs.Close st o w = completes_good kind ps f (sign signs.Close) (λ r. closed r.0 (Some r.1)) st o w (λ qs g. closed_good kind qs g (parts_spelled ps ++ spelled f))
sign_follows_good kind ps f signs.Comma st o w = completes_good kind ps f (sign signs.Comma) parted st o w (λ qs g. parted_good kind qs g (parts_spelled ps ++ spelled f))
sign_follows_good kind ps f s st o w = completes_good kind ps f _ ended st o w (λ qs g. ended_good kind qs g (parts_spelled ps ++ spelled f) _)

follows_good : (kind : Bool) (ps : List Part) (f : Form) (l : Lexeme) → Stacked kind ps → Operand ps f → level f ≡ 7 → Good kind (parts_spelled ps ++ spelled f) l (follows (opens ps) (meant f) l)
follows_good kind ps f (operator op) st o w =
    let low = threshold_low op in
    let r = reduces kind (threshold op) ps f st o (operand_level ps f (threshold op) w low) in
    subst (λ (x : List Open × Tree). Good kind (parts_spelled ps ++ spelled f) (operator op) (joined op x)) (sym r.opened) (joins_good kind op r.parts r.form (parts_spelled ps ++ spelled f) r.stacked r.operand r.least r.stays r.spells)
follows_good kind ps f (sign s) st o w = sign_follows_good kind ps f s st o w
follows_good kind ps f l st o w = completes_good kind ps f _ ended st o w (λ qs g. ended_good kind qs g (parts_spelled ps ++ spelled f) _)

-- ---- behind a name, and the rest

variable_follows : (kind : Bool) (ps : List Part) (n : List ℕ) (l : Lexeme) → Stacked kind ps → suc (levels (opens ps)) ≤ 64 → Good kind (parts_spelled ps ++ name n ∷ []) l (follows (opens ps) (variable n) l)
variable_follows kind ps n l st low =
    let few = stacked_few kind ps st in
    follows_good kind ps (a_name n) l st (record { lawful = tt; tight = need_low ps; low = omega (arith, low); few = omega (arith, few) }) refl

call_good : (kind : Bool) (ps : List Part) (n : List ℕ) → Stacked kind ps → suc (levels (opens ps)) ≤ 64 → suc (parentheses (opens ps)) ≤ 64
    → Good kind (parts_spelled ps ++ name n ∷ []) (sign signs.Open) (goes (called n [] None ∷ opens ps) (wants first_argument))
call_good kind ps n st low few = record {
  parts = call_part true n [] None ∷ ps;
  held = wanting first_argument;
  opened = refl;
  at = refl;
  fits = ((record { lawful = tt; low = omega (arith, low); few = omega (arith, few) }, st), (refl, refl));
  spells = append-nil (parts_spelled ps ++ name n ∷ sign signs.Open ∷ []) ∙ sym (append_assoc (parts_spelled ps) (name n ∷ []) (sign signs.Open ∷ []));
}

name_follows_good : (kind : Bool) (ps : List Part) (n : List ℕ) (l : Lexeme) → Stacked kind ps → suc (levels (opens ps)) ≤ 64 → Good kind (parts_spelled ps ++ name n ∷ []) l (name_follows (opens ps) n l)
name_follows_good kind ps n (sign signs.Open) st low = within_good kind _ _ (opens ps) _ (λ fits. opening_good kind _ _ (opens ps) _ (λ few. call_good kind ps n st low few))
name_follows_good kind ps n l st low = variable_follows kind ps n l st low

regroup_named : (a c : List Lexeme) (x y n k : Lexeme) → (a ++ x ∷ y ∷ (c ++ n ∷ k ∷ [])) ++ [] ≡ ((a ++ x ∷ y ∷ (c ++ [])) ++ n ∷ []) ++ k ∷ []
regroup_named a c x y n k = simp (append_assoc, append-nil)

names_good : (kind k : Bool) (f : List ℕ) (given : Given) (this : Option (List ℕ)) (ps : List Part) (n : List ℕ) → Stacked kind (call_part k f given this ∷ ps) → this ≡ None
    → Good kind (parts_spelled (call_part k f given this ∷ ps) ++ name n ∷ []) (sign signs.Colon) (argument_named (frame k f (means_of given) this ∷ opens ps) n)
names_good kind k f given (Some x) ps n st e = absurd cc
names_good kind true f given None ps n st e = record {
  parts = call_part true f given (Some n) ∷ ps;
  held = wanting anywhere;
  opened = refl;
  at = refl;
  fits = (st, tt);
  spells = regroup_named (parts_spelled ps) (commas given) (name f) (sign signs.Open) (name n) (sign signs.Colon);
}
names_good kind false f given None ps n st e = record {
  parts = call_part false f given (Some n) ∷ ps;
  held = wanting anywhere;
  opened = refl;
  at = refl;
  fits = (st, tt);
  spells = regroup_named (parts_spelled ps) (commas given) (name f) (sign signs.Open) (name n) (sign signs.Colon);
}

argument_named_good : (kind : Bool) (ps : List Part) (n : List ℕ) → Stacked kind ps → IsNext ps → Good kind (parts_spelled ps ++ name n ∷ []) (sign signs.Colon) (argument_named (opens ps) n)
argument_named_good kind [] n st h = absurd h
argument_named_good kind (sign_part s ∷ ps) n st h = absurd h
argument_named_good kind (left_part op a ∷ ps) n st h = absurd h
argument_named_good kind (paren_part ∷ ps) n st h = absurd h
argument_named_good kind (call_part k f given this ∷ ps) n st h = names_good kind k f given this ps n st h

argument_follows_good : (kind : Bool) (ps : List Part) (n : List ℕ) (l : Lexeme) → Stacked kind ps → suc (levels (opens ps)) ≤ 64 → IsNext ps → Good kind (parts_spelled ps ++ name n ∷ []) l (argument_follows (opens ps) n l)
argument_follows_good kind ps n (sign signs.Colon) st low h = argument_named_good kind ps n st h
argument_follows_good kind ps n l st low h = name_follows_good kind ps n l st low

dot_good : (kind : Bool) (ps : List Part) (l : Lexeme) → Stacked kind ps → suc (levels (opens ps)) ≤ 64 → Good kind (parts_spelled ps ++ sign signs.Message ∷ []) l (dot_follows (opens ps) l)
dot_good kind ps (sign signs.Dot) st low = record {
  parts = ps;
  held = dotting;
  opened = refl;
  at = refl;
  fits = (st, low);
  spells = sym (append_assoc (parts_spelled ps) (sign signs.Message ∷ []) (sign signs.Dot ∷ []));
}
dot_good kind ps _ st low = tt

field_good : (kind : Bool) (ps : List Part) (l : Lexeme) → Stacked kind ps → suc (levels (opens ps)) ≤ 64 → Good kind (parts_spelled ps ++ sign signs.Message ∷ sign signs.Dot ∷ []) l (field_follows (opens ps) l)
field_good kind ps (name n) st low =
    let few = stacked_few kind ps st in
    record {
      parts = ps;
      held = holding (a_field n);
      opened = refl;
      at = refl;
      fits = (st, record { lawful = tt; tight = need_low ps; low = omega (arith, low); few = omega (arith, few) }, refl);
      spells = sym (append_assoc (parts_spelled ps) (sign signs.Message ∷ sign signs.Dot ∷ []) (name n ∷ []));
    }
field_good kind ps _ st low = tt

acted_good : (kind : Bool) (ps : List Part) (f : List ℕ) (given : Forms) (l : Lexeme) → ps ≡ [] → kind ≡ false → CallWhole f given
    → Good kind (parts_spelled ps ++ name f ∷ sign signs.Open ∷ first_spelled given) l (ends (call f (row (pairs given))))
acted_good kind (p ∷ ps) f given l e k w = absurd cc
acted_good true [] f given l e k w = absurd cc
acted_good false [] f given l e k w = record { function = f; given = given; whole_call = w; spells = refl; means = refl }

moves_good : (kind : Bool) (ps : List Part) (h : Held) (l : Lexeme) → Fits kind ps h → Good kind (parts_spelled ps ++ held_spelled h) l (move (opens ps) (held_place h) l)
moves_good kind ps (wanting start) l fits = subst (λ (x : List Lexeme). Good kind x l (begins (opens ps) start l)) (sym (append-nil (parts_spelled ps))) (begins_good kind ps start l fits.0 fits.1)
moves_good kind ps (naming_one n) l fits = name_follows_good kind ps n l fits.0 fits.1
moves_good kind ps (naming_maybe n) l fits = argument_follows_good kind ps n l fits.0 fits.1 fits.2
moves_good kind ps messaged l fits = dot_good kind ps l fits.0 fits.1
moves_good kind ps dotting l fits = field_good kind ps l fits.0 fits.1
moves_good kind ps (holding f) l fits = follows_good kind ps f l fits.0 fits.1 fits.2
moves_good kind ps (performing f given) l fits = acted_good kind ps f given l fits.0 fits.1 fits.2

-- ---- all tokens

begins_more : (xs : List Lexeme) (l : Lexeme) (at : ℕ) (all ts : Tokens) → Begins xs all (token l at ts) → Begins (xs ++ l ∷ []) all ts
begins_more [] l at (end n) ts h = absurd cc
begins_more [] l at (token m n us) ts h = let same : m ≡ l = cc in let rest : us ≡ ts = cc in (same, rest)
begins_more (x ∷ xs) l at (end n) ts h = h
begins_more (x ∷ xs) l at (token m n us) ts h = (h.0, begins_more xs l at us ts h.1)

pub record Accepts (kind : Bool) (all : Tokens) (t : Tree) (behind : Tokens) : Type 0 where
  pub lexemes : List Lexeme
  pub ended_so : Ended kind lexemes t
  pub begins_so : Begins lexemes all behind

From : Tokens → Bool → Tokens → Tree → Tokens → Type 0
From ts kind all t behind = (ps : List Part) (h : Held) → Fits kind ps h → Begins (parts_spelled ps ++ held_spelled h) all ts → run ts (opens ps) (held_place h) ≡ Ok (t, behind) → Accepts kind all t behind

turn_good : (m : Move) (l : Lexeme) (at : ℕ) (ts : Tokens) (kind : Bool) (xs : List Lexeme) (all : Tokens) (t : Tree) (behind : Tokens) → Good kind xs l m → Begins xs all (token l at ts) → From ts kind all t behind
    → moved m (run ts) l at ts ≡ Ok (t, behind) → Accepts kind all t behind
unfolding From
turn_good (goes stack place) l at ts kind xs all t behind g b from e =
    from g.parts g.held g.fits (subst (λ (x : List Lexeme). Begins x all ts) (sym g.spells) (begins_more xs l at all ts b))
    (subst (λ (p : Place). run ts (opens g.parts) p ≡ Ok (t, behind)) g.at (subst (λ (st : List Open). run ts st place ≡ Ok (t, behind)) g.opened e))
turn_good (ends s) l at ts kind xs all t behind g b from e =
    let both : (s, token l at ts) ≡ (t, behind) = cc in
    let same : s ≡ t = ap (λ (x : Tree × Tokens). x.0) both in let rest : token l at ts ≡ behind = ap (λ (x : Tree × Tokens). x.1) both in
    record { lexemes = xs; ended_so = subst (Ended kind xs) same g; begins_so = subst (Begins xs all) rest b }
turn_good stuck l at ts kind xs all t behind g b from e = absurd cc
turn_good deep l at ts kind xs all t behind g b from e = absurd cc

accepts : (ts : Tokens) (kind : Bool) (all : Tokens) (t : Tree) (behind : Tokens) → From ts kind all t behind
unfolding run From
accepts (end at) kind all t behind ps h fits b e = absurd cc
accepts (token l at ts) kind all t behind ps h fits b e =
    turn_good (move (opens ps) (held_place h) l) l at ts kind (parts_spelled ps ++ held_spelled h) all t behind (moves_good kind ps h l fits) b (accepts ts kind all t behind) e

pub expression_accepts : (ts : Tokens) (t : Tree) (behind : Tokens) → run ts [] (wants anywhere) ≡ Ok (t, behind) → Accepts true ts t behind
unfolding From
expression_accepts ts t behind e = accepts ts true ts t behind [] (wanting anywhere) (refl, tt) refl e

pub action_accepts : (all ts : Tokens) (f : List ℕ) (t : Tree) (behind : Tokens) → Begins (name f ∷ sign signs.Open ∷ []) all ts → run ts (performed f [] None ∷ []) (wants first_argument) ≡ Ok (t, behind) → Accepts false all t behind
unfolding From
action_accepts all ts f t behind b e =
    accepts ts false all t behind (call_part false f [] None ∷ []) (wanting first_argument) ((record { lawful = tt; low = omega arith; few = omega arith }, refl, refl), (refl, refl)) b e
