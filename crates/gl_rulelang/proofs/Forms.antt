-- What the tokens of a form give: reading them leaves the form's last operand, and the operations round it open.
use Rattle.std.proofs.Common.{◌≡◌, ℕ, suc, ◌+◌, ◌<◌, ◌≤◌, Bool, true, false, cond, leb, ltb, List, [], ◌∷◌, ◌++◌, Option, Some, None, Ok, Err, refl, sym, ap, subst, ◌∙◌, append_assoc, arith, lit≤, inl, inr, ◌⊎◌}
use Rattle.std.specs.Prelude.{◌&&◌}
use Rattle.std.proofs.lemmas.Bool.{leb-true, le-leb, lt-ltb}
use Rattle.std.proofs.lemmas.List.Sums.{sum_by-cons}
use Rattle.gl_rulelang.specs.declared.rule.Unary.{Unary}
use Rattle.gl_rulelang.specs.declared.rule.Unary.TheVariants as prefixes
use Rattle.gl_rulelang.specs.declared.rule.Binary.{Binary}
use Rattle.gl_rulelang.specs.declared.rule.Binary.TheVariants as ops
use Rattle.gl_rulelang.specs.declared.token.Sign.TheVariants as signs
use Rattle.gl_rulelang.specs.Tree.{Tree, text, whole, boolean, field, variable, unary, binary, call, row, height, heights}
use Rattle.gl_rulelang.specs.Tokens.{Lexeme, name, string, number, operator, sign, Tokens, end, token, first, is_sign}
use Rattle.gl_rulelang.specs.Faults.{Reads}
use Rattle.gl_rulelang.specs.Nesting.{Open, prefix, infix_, paren, called, performed, level_of, parenthesis_of, levels, parentheses, precedence, prefix_precedence, threshold, is_comparison, top_binds, top_compares, takes_not, completed, reduced}
use Rattle.gl_rulelang.specs.Expressions.{Start, anywhere, first_argument, next_argument, Place, wants, named, maybe_named, message, dotted, has, acted, Move, goes, ends, stuck, within, opening, closed, parted, joined, ended, follows, name_follows, move, moved, run}
use Rattle.gl_rulelang.specs.Grammar.{Form, a_string, a_number, a_truth, a_field, a_name, before, between, inside, calling, Forms, no_more, one_more, truth_sign, prefix_lexeme, naming, spelled, first_spelled, rest_spelled, meant, pairs, level, IsLawful, AreLawful, nested, all_nested, Begins, EndsExpression}

-- ---- tokens

split : (xs ys : List Lexeme) (ts mid : Tokens) → Begins (xs ++ ys) ts mid → (us : Tokens) × Begins xs ts us × Begins ys us mid
split [] ys ts mid h = (ts, refl, h)
split (x ∷ xs) ys (end at) mid h = absurd h
split (x ∷ xs) ys (token l at ts) mid h = let p = split xs ys ts mid h.1 in (p.0, (h.0, p.1), p.2)

goes_on : (x : Lexeme) (xs : List Lexeme) (ts mid : Tokens) (stack : List Open) (p : Place) (behind : List Open) (q : Place) → Begins (x ∷ xs) ts mid → move stack p x ≡ goes behind q
    → (us : Tokens) × (run ts stack p ≡ run us behind q) × Begins xs us mid
unfolding run
goes_on x xs (end at) mid stack p behind q h m = absurd h
goes_on x xs (token l at ts) mid stack p behind q h m =
    (ts, ap (λ (y : Lexeme). moved (move stack p y) (run ts) y at ts) h.0 ∙ ap (λ (y : Move). moved y (run ts) x at ts) m, h.1)

-- what may stand behind an operand, and makes no call and no argument's name of it
abbrev pub Behind : Tokens → Type 0
Behind (end at) = ⊥
Behind (token l at ts) = (is_sign signs.Open (Some l) ≡ false) × (is_sign signs.Colon (Some l) ≡ false)

behind_first : (x : Lexeme) (xs : List Lexeme) (ts mid : Tokens) → Begins (x ∷ xs) ts mid → is_sign signs.Open (Some x) ≡ false → is_sign signs.Colon (Some x) ≡ false → Behind ts
behind_first x xs (end at) mid h o c = absurd h
behind_first x xs (token l at ts) mid h o c = (ap (λ (y : Lexeme). is_sign signs.Open (Some y)) h.0 ∙ o, ap (λ (y : Lexeme). is_sign signs.Colon (Some y)) h.0 ∙ c)

name_plain : (stack : List Open) (n : List ℕ) (l : Lexeme) → is_sign signs.Open (Some l) ≡ false → name_follows stack n l ≡ follows stack (variable n) l
name_plain stack n (name x) o = refl
name_plain stack n (string x) o = refl
name_plain stack n (number x) o = refl
name_plain stack n (operator x) o = refl
name_plain stack n (sign signs.Rule) o = refl
name_plain stack n (sign signs.When) o = refl
name_plain stack n (sign signs.Then) o = refl
name_plain stack n (sign signs.End) o = refl
name_plain stack n (sign signs.Let) o = refl
name_plain stack n (sign signs.Pipeline) o = refl
name_plain stack n (sign signs.Stage) o = refl
name_plain stack n (sign signs.Match) o = refl
name_plain stack n (sign signs.All) o = refl
name_plain stack n (sign signs.Either) o = refl
name_plain stack n (sign signs.Pass) o = refl
name_plain stack n (sign signs.True) o = refl
name_plain stack n (sign signs.False) o = refl
name_plain stack n (sign signs.Not) o = refl
name_plain stack n (sign signs.Open) o = absurd cc
name_plain stack n (sign signs.Close) o = refl
name_plain stack n (sign signs.Comma) o = refl
name_plain stack n (sign signs.Semicolon) o = refl
name_plain stack n (sign signs.Colon) o = refl
name_plain stack n (sign signs.Dot) o = refl
name_plain stack n (sign signs.Assign) o = refl
name_plain stack n (sign signs.Message) o = refl

maybe_plain : (stack : List Open) (n : List ℕ) (l : Lexeme) → is_sign signs.Open (Some l) ≡ false → is_sign signs.Colon (Some l) ≡ false → move stack (maybe_named n) l ≡ follows stack (variable n) l
maybe_plain stack n (name x) o c = refl
maybe_plain stack n (string x) o c = refl
maybe_plain stack n (number x) o c = refl
maybe_plain stack n (operator x) o c = refl
maybe_plain stack n (sign signs.Rule) o c = refl
maybe_plain stack n (sign signs.When) o c = refl
maybe_plain stack n (sign signs.Then) o c = refl
maybe_plain stack n (sign signs.End) o c = refl
maybe_plain stack n (sign signs.Let) o c = refl
maybe_plain stack n (sign signs.Pipeline) o c = refl
maybe_plain stack n (sign signs.Stage) o c = refl
maybe_plain stack n (sign signs.Match) o c = refl
maybe_plain stack n (sign signs.All) o c = refl
maybe_plain stack n (sign signs.Either) o c = refl
maybe_plain stack n (sign signs.Pass) o c = refl
maybe_plain stack n (sign signs.True) o c = refl
maybe_plain stack n (sign signs.False) o c = refl
maybe_plain stack n (sign signs.Not) o c = refl
maybe_plain stack n (sign signs.Open) o c = absurd cc
maybe_plain stack n (sign signs.Close) o c = refl
maybe_plain stack n (sign signs.Comma) o c = refl
maybe_plain stack n (sign signs.Semicolon) o c = refl
maybe_plain stack n (sign signs.Colon) o c = absurd cc
maybe_plain stack n (sign signs.Dot) o c = refl
maybe_plain stack n (sign signs.Assign) o c = refl
maybe_plain stack n (sign signs.Message) o c = refl

name_end : (stack : List Open) (n : List ℕ) (ts : Tokens) → Behind ts → run ts stack (named n) ≡ run ts stack (has (variable n))
unfolding run
name_end stack n (end at) b = absurd b
name_end stack n (token l at ts) b = ap (λ (m : Move). moved m (run ts) l at ts) (name_plain stack n l b.0)

maybe_end : (stack : List Open) (n : List ℕ) (ts : Tokens) → Behind ts → run ts stack (maybe_named n) ≡ run ts stack (has (variable n))
unfolding run
maybe_end stack n (end at) b = absurd b
maybe_end stack n (token l at ts) b = ap (λ (m : Move). moved m (run ts) l at ts) (maybe_plain stack n l b.0 b.1)

-- ---- how operations bind

comparison_level : (op : Binary) → is_comparison op ≡ true → precedence op ≤ 3
comparison_level ops.Or h = absurd cc
comparison_level ops.And h = absurd cc
comparison_level ops.Equal h = lit≤ tt
comparison_level ops.NotEqual h = lit≤ tt
comparison_level ops.Less h = lit≤ tt
comparison_level ops.AtMost h = lit≤ tt
comparison_level ops.Greater h = lit≤ tt
comparison_level ops.AtLeast h = lit≤ tt
comparison_level ops.Plus h = absurd cc
comparison_level ops.Minus h = absurd cc
comparison_level ops.Times h = absurd cc
comparison_level ops.Divide h = absurd cc
comparison_level ops.Remainder h = absurd cc

low_compares_not : (op : Binary) → precedence op < 3 → is_comparison op ≡ false
low_compares_not ops.Or h = refl
low_compares_not ops.And h = refl
low_compares_not ops.Equal h = absurd (omega (arith, h))
low_compares_not ops.NotEqual h = absurd (omega (arith, h))
low_compares_not ops.Less h = absurd (omega (arith, h))
low_compares_not ops.AtMost h = absurd (omega (arith, h))
low_compares_not ops.Greater h = absurd (omega (arith, h))
low_compares_not ops.AtLeast h = absurd (omega (arith, h))
low_compares_not ops.Plus h = refl
low_compares_not ops.Minus h = refl
low_compares_not ops.Times h = refl
low_compares_not ops.Divide h = refl
low_compares_not ops.Remainder h = refl

precedence_threshold : (op : Binary) → precedence op ≤ threshold op
precedence_threshold ops.Or = lit≤ tt
precedence_threshold ops.And = lit≤ tt
precedence_threshold ops.Equal = lit≤ tt
precedence_threshold ops.NotEqual = lit≤ tt
precedence_threshold ops.Less = lit≤ tt
precedence_threshold ops.AtMost = lit≤ tt
precedence_threshold ops.Greater = lit≤ tt
precedence_threshold ops.AtLeast = lit≤ tt
precedence_threshold ops.Plus = lit≤ tt
precedence_threshold ops.Minus = lit≤ tt
precedence_threshold ops.Times = lit≤ tt
precedence_threshold ops.Divide = lit≤ tt
precedence_threshold ops.Remainder = lit≤ tt

-- no threshold is that of `!`, of a comparison or of the sign `-`
abbrev IsThreshold : ℕ → Type 0
IsThreshold n = (n ≤ 1) ⊎ ((4 ≤ n) × (n ≤ 5))

threshold_is : (op : Binary) → IsThreshold (threshold op)
threshold_is ops.Or = inl (lit≤ tt)
threshold_is ops.And = inl (lit≤ tt)
threshold_is ops.Equal = inr (lit≤ tt, lit≤ tt)
threshold_is ops.NotEqual = inr (lit≤ tt, lit≤ tt)
threshold_is ops.Less = inr (lit≤ tt, lit≤ tt)
threshold_is ops.AtMost = inr (lit≤ tt, lit≤ tt)
threshold_is ops.Greater = inr (lit≤ tt, lit≤ tt)
threshold_is ops.AtLeast = inr (lit≤ tt, lit≤ tt)
threshold_is ops.Plus = inr (lit≤ tt, lit≤ tt)
threshold_is ops.Minus = inr (lit≤ tt, lit≤ tt)
threshold_is ops.Times = inr (lit≤ tt, lit≤ tt)
threshold_is ops.Divide = inr (lit≤ tt, lit≤ tt)
threshold_is ops.Remainder = inr (lit≤ tt, lit≤ tt)

gt-leb : (a b : ℕ) → b < a → leb a b ≡ false
gt-leb a b h = not_true (leb a b) (λ t. let le = leb-true a b t in omega arith)
  where
    not_true : (t : Bool) → (t ≡ true → ⊥) → t ≡ false
    not_true true h = absurd (h refl)
    not_true false h = refl

-- an operand of this level or tighter may be read here, and completes nothing of what is open
pub record Ready (k : ℕ) (stack : List Open) : Type 0 where
  pub stays : (op : Binary) → k ≤ threshold op → top_binds (threshold op) stack ≡ false
  pub compares : k ≤ 3 → top_compares stack ≡ false
  pub negates : k ≤ 2 → takes_not stack ≡ true

tighter : (k m : ℕ) (stack : List Open) → k ≤ m → Ready k stack → Ready m stack
tighter k m stack le r = record { stays = λ op h. r.stays op (omega arith); compares = λ h. r.compares (omega arith); negates = λ h. r.negates (omega arith) }

ready_empty : (k : ℕ) → Ready k []
ready_empty k = record { stays = λ op h. refl; compares = λ h. refl; negates = λ h. refl }

ready_paren : (k : ℕ) (stack : List Open) → Ready k (paren ∷ stack)
ready_paren k stack = record { stays = λ op h. refl; compares = λ h. refl; negates = λ h. refl }

-- a call that is an expression, or one that is an action
abbrev pub frame : Bool → List ℕ → List (Option (List ℕ) × Tree) → Option (List ℕ) → Open
frame true f given this = called f given this
frame false f given this = performed f given this

abbrev pub finished : Bool → Tree → Place
finished true e = has e
finished false e = acted e

ready_frame : (kind : Bool) (f : List ℕ) (given : List (Option (List ℕ) × Tree)) (this : Option (List ℕ)) (k : ℕ) (stack : List Open) → Ready k (frame kind f given this ∷ stack)
ready_frame true f given this k stack = record { stays = λ op h. refl; compares = λ h. refl; negates = λ h. refl }
ready_frame false f given this k stack = record { stays = λ op h. refl; compares = λ h. refl; negates = λ h. refl }

prefix_stays : (s : Unary) (k n : ℕ) → prefix_precedence s ≤ k → k ≤ n → IsThreshold n → leb n (prefix_precedence s) ≡ false
prefix_stays prefixes.Not k n p h (inl le) = absurd (omega (arith, p, h, le))
prefix_stays prefixes.Not k n p h (inr b) = gt-leb n 2 (omega (arith, b.0))
prefix_stays prefixes.Minus k n p h (inl le) = absurd (omega (arith, p, h, le))
prefix_stays prefixes.Minus k n p h (inr b) = absurd (omega (arith, p, h, b.1))

prefix_negates : (s : Unary) (k : ℕ) → prefix_precedence s ≤ k → k ≤ 2 → leb (prefix_precedence s) 2 ≡ true
prefix_negates prefixes.Not k p h = refl
prefix_negates prefixes.Minus k p h = absurd (omega (arith, p, h))

ready_prefix : (s : Unary) (k : ℕ) (stack : List Open) → prefix_precedence s ≤ k → Ready k (prefix s ∷ stack)
ready_prefix s k stack p = record {
  stays = λ op h. prefix_stays s k (threshold op) p h (threshold_is op);
  compares = λ h. refl;
  negates = λ h. prefix_negates s k p h;
}

ready_infix : (op : Binary) (a : Tree) (k : ℕ) (stack : List Open) → precedence op < k → Ready k (infix_ op a ∷ stack)
ready_infix op a k stack p = record {
  stays = λ other h. gt-leb (threshold other) (precedence op) (omega (arith, p, h));
  compares = λ h. low_compares_not op (omega (arith, p, h));
  negates = λ h. le-leb (precedence op) 2 (omega (arith, p, h));
}

-- ---- what a form leaves open

abbrev pub pending : Form → List Open
pending (before s f) = pending f ++ prefix s ∷ []
pending (between op a b) = pending b ++ infix_ op (meant a) ∷ []
pending _ = []

abbrev pub last : Form → Tree
last (before s f) = last f
last (between op a b) = last b
last (a_string s) = text s
last (a_number n) = whole n
last (a_truth b) = boolean b
last (a_field f) = field f
last (a_name x) = variable x
last (inside f) = meant f
last (calling f given) = call f (row (pairs given))

completes : (f : Form) (k : ℕ) (stack : List Open) → IsLawful f → k ≤ level f → reduced k (pending f ++ stack) (last f) ≡ reduced k stack (meant f)
completes (a_string s) k stack l h = refl
completes (a_number n) k stack l h = refl
completes (a_truth b) k stack l h = refl
completes (a_field f) k stack l h = refl
completes (a_name x) k stack l h = refl
completes (inside f) k stack l h = refl
completes (calling f given) k stack l h = refl
completes (before s f) k stack l h =
    ap (λ (st : List Open). reduced k st (last f)) (append_assoc (pending f) (prefix s ∷ []) stack)
    ∙ completes f k (prefix s ∷ stack) l.1 (omega (arith, l.0, h))
    ∙ ap (λ (b : Bool). cond b (reduced k stack (unary s (meant f))) (prefix s ∷ stack, meant f)) (le-leb k (prefix_precedence s) h)
completes (between op a b) k stack l h =
    ap (λ (st : List Open). reduced k st (last b)) (append_assoc (pending b) (infix_ op (meant a) ∷ []) stack)
    ∙ completes b k (infix_ op (meant a) ∷ stack) l.3 (omega (arith, l.1, h))
    ∙ ap (λ (t : Bool). cond t (reduced k stack (binary op (meant a) (meant b))) (infix_ op (meant a) ∷ stack, meant b)) (le-leb k (precedence op) h)

keeps : (k : ℕ) (stack : List Open) (e : Tree) → top_binds k stack ≡ false → reduced k stack e ≡ (stack, e)
keeps k [] e h = refl
keeps k (o ∷ stack) e h = ap (λ (b : Bool). cond b (reduced k stack (completed o e)) (o ∷ stack, e)) h

both_false : (c b : Bool) → (c ≡ true → b ≡ false) → (c && b) ≡ false
both_false true b h = h refl
both_false false b h = refl

joins : (op : Binary) (stack : List Open) (e : Tree) → (is_comparison op ≡ true → top_compares stack ≡ false) → levels stack + height e < 64 → joined op (stack, e) ≡ goes (infix_ op e ∷ stack) (wants anywhere)
joins op stack e c low =
    let no : (is_comparison op && top_compares stack) ≡ false = both_false (is_comparison op) (top_compares stack) c in
    let fits : ltb (levels stack + height e) 64 ≡ true = lt-ltb (levels stack + height e) 64 low in
    rw (no, fits) refl

-- ---- reading a form

begins_within : (stack : List Open) (m : Move) → levels stack < 64 → within stack m ≡ m
begins_within stack m low = let fits : ltb (levels stack) 64 ≡ true = lt-ltb (levels stack) 64 low in rw fits refl

begins_opening : (stack : List Open) (m : Move) → parentheses stack < 64 → opening stack m ≡ m
begins_opening stack m low = let fits : ltb (parentheses stack) 64 ≡ true = lt-ltb (parentheses stack) 64 low in rw fits refl

leaf : (stack : List Open) (e : Tree) → levels stack < 64 → within stack (goes stack (has e)) ≡ goes stack (has e)
leaf stack e low = begins_within stack (goes stack (has e)) low

truth_moves : (b : Bool) (stack : List Open) (start : Start) → levels stack < 64 → move stack (wants start) (truth_sign b) ≡ goes stack (has (boolean b))
truth_moves true stack start low = leaf stack (boolean true) low
truth_moves false stack start low = leaf stack (boolean false) low

prefix_moves : (s : Unary) (stack : List Open) (start : Start) → levels stack < 64 → (prefix_precedence s ≤ 2 → takes_not stack ≡ true) → move stack (wants start) (prefix_lexeme s) ≡ goes (prefix s ∷ stack) (wants anywhere)
prefix_moves prefixes.Minus stack start low n = begins_within stack (goes (prefix prefixes.Minus ∷ stack) (wants anywhere)) low
prefix_moves prefixes.Not stack start low n =
    ap (λ (b : Bool). cond b (within stack (goes (prefix prefixes.Not ∷ stack) (wants anywhere))) stuck) (n (lit≤ tt))
    ∙ begins_within stack (goes (prefix prefixes.Not ∷ stack) (wants anywhere)) low

name_reads : (n : List ℕ) (stack : List Open) (start : Start) (ts us mid : Tokens) → levels stack < 64 → Begins (name n ∷ []) ts mid → Behind mid → run ts stack (wants start) ≡ run mid stack (has (variable n))
name_reads n stack anywhere ts us mid low h b =
    let g = goes_on (name n) [] ts mid stack (wants anywhere) stack (named n) h (begins_within stack (goes stack (named n)) low) in
    g.1 ∙ ap (λ (x : Tokens). run x stack (named n)) g.2 ∙ name_end stack n mid b
name_reads n stack first_argument ts us mid low h b =
    let g = goes_on (name n) [] ts mid stack (wants first_argument) stack (maybe_named n) h (begins_within stack (goes stack (maybe_named n)) low) in
    g.1 ∙ ap (λ (x : Tokens). run x stack (maybe_named n)) g.2 ∙ maybe_end stack n mid b
name_reads n stack next_argument ts us mid low h b =
    let g = goes_on (name n) [] ts mid stack (wants next_argument) stack (maybe_named n) h (begins_within stack (goes stack (maybe_named n)) low) in
    g.1 ∙ ap (λ (x : Tokens). run x stack (maybe_named n)) g.2 ∙ maybe_end stack n mid b

call_moves : (stack : List Open) (f : List ℕ) → levels stack < 64 → parentheses stack < 64 → within stack (opening stack (goes (called f [] None ∷ stack) (wants first_argument))) ≡ goes (called f [] None ∷ stack) (wants first_argument)
call_moves stack f low few = begins_within stack (opening stack (goes (called f [] None ∷ stack) (wants first_argument))) low ∙ begins_opening stack (goes (called f [] None ∷ stack) (wants first_argument)) few

-- a function's name and the parenthesis behind it
call_opens : (f : List ℕ) (xs : List Lexeme) (stack : List Open) (start : Start) (ts mid : Tokens) → levels stack < 64 → parentheses stack < 64 → Begins (name f ∷ sign signs.Open ∷ xs) ts mid
    → (us : Tokens) × (run ts stack (wants start) ≡ run us (called f [] None ∷ stack) (wants first_argument)) × Begins xs us mid
call_opens f xs stack anywhere ts mid low few h =
    let g = goes_on (name f) (sign signs.Open ∷ xs) ts mid stack (wants anywhere) stack (named f) h (begins_within stack (goes stack (named f)) low) in
    let k = goes_on (sign signs.Open) xs g.0 mid stack (named f) (called f [] None ∷ stack) (wants first_argument) g.2 (call_moves stack f low few) in
    (k.0, g.1 ∙ k.1, k.2)
call_opens f xs stack first_argument ts mid low few h =
    let g = goes_on (name f) (sign signs.Open ∷ xs) ts mid stack (wants first_argument) stack (maybe_named f) h (begins_within stack (goes stack (maybe_named f)) low) in
    let k = goes_on (sign signs.Open) xs g.0 mid stack (maybe_named f) (called f [] None ∷ stack) (wants first_argument) g.2 (call_moves stack f low few) in
    (k.0, g.1 ∙ k.1, k.2)
call_opens f xs stack next_argument ts mid low few h =
    let g = goes_on (name f) (sign signs.Open ∷ xs) ts mid stack (wants next_argument) stack (maybe_named f) h (begins_within stack (goes stack (maybe_named f)) low) in
    let k = goes_on (sign signs.Open) xs g.0 mid stack (maybe_named f) (called f [] None ∷ stack) (wants first_argument) g.2 (call_moves stack f low few) in
    (k.0, g.1 ∙ k.1, k.2)

-- the name of an argument, where it has one
abbrev IsArgument : Start → Type 0
IsArgument anywhere = ⊥
IsArgument first_argument = Unit {0}
IsArgument next_argument = Unit {0}

-- a call that is an expression stands round its arguments, an action doesn't
abbrev pub frame_level : Bool → ℕ
frame_level true = 1
frame_level false = 0

pub frame_levels : (kind : Bool) (f : List ℕ) (given : List (Option (List ℕ) × Tree)) (this : Option (List ℕ)) (stack : List Open) → levels (frame kind f given this ∷ stack) ≡ frame_level kind + levels stack
frame_levels true f given this stack = sum_by-cons level_of (called f given this) stack
frame_levels false f given this stack = sum_by-cons level_of (performed f given this) stack

pub frame_parentheses : (kind : Bool) (f : List ℕ) (given : List (Option (List ℕ) × Tree)) (this : Option (List ℕ)) (stack : List Open) → parentheses (frame kind f given this ∷ stack) ≡ suc (parentheses stack)
frame_parentheses true f given this stack = let e : parentheses (frame true f given this ∷ stack) ≡ 1 + parentheses stack = sum_by-cons parenthesis_of (frame true f given this) stack in omega (arith, e)
frame_parentheses false f given this stack = let e : parentheses (frame false f given this ∷ stack) ≡ 1 + parentheses stack = sum_by-cons parenthesis_of (frame false f given this) stack in omega (arith, e)

pub levels-prefix : (s : Unary) (stack : List Open) → levels (prefix s ∷ stack) ≡ 1 + levels stack
levels-prefix s stack = sum_by-cons level_of (prefix s) stack

pub levels-infix : (op : Binary) (a : Tree) (stack : List Open) → levels (infix_ op a ∷ stack) ≡ 1 + levels stack
levels-infix op a stack = sum_by-cons level_of (infix_ op a) stack

pub levels-paren : (stack : List Open) → levels (paren ∷ stack) ≡ 0 + levels stack
levels-paren stack = sum_by-cons level_of paren stack

pub parentheses-prefix : (s : Unary) (stack : List Open) → parentheses (prefix s ∷ stack) ≡ 0 + parentheses stack
parentheses-prefix s stack = sum_by-cons parenthesis_of (prefix s) stack

pub parentheses-infix : (op : Binary) (a : Tree) (stack : List Open) → parentheses (infix_ op a ∷ stack) ≡ 0 + parentheses stack
parentheses-infix op a stack = sum_by-cons parenthesis_of (infix_ op a) stack

pub parentheses-paren : (stack : List Open) → parentheses (paren ∷ stack) ≡ 1 + parentheses stack
parentheses-paren stack = sum_by-cons parenthesis_of paren stack

maybe_moves : (stack : List Open) (start : Start) (x : List ℕ) → IsArgument start → levels stack < 64 → move stack (wants start) (name x) ≡ goes stack (maybe_named x)
maybe_moves stack anywhere x a low = absurd a
maybe_moves stack first_argument x a low = begins_within stack (goes stack (maybe_named x)) low
maybe_moves stack next_argument x a low = begins_within stack (goes stack (maybe_named x)) low

colon_moves : (kind : Bool) (f : List ℕ) (given : List (Option (List ℕ) × Tree)) (stack : List Open) (x : List ℕ) → move (frame kind f given None ∷ stack) (maybe_named x) (sign signs.Colon) ≡ goes (frame kind f given (Some x) ∷ stack) (wants anywhere)
colon_moves true f given stack x = refl
colon_moves false f given stack x = refl

names : (kind : Bool) (n : Option (List ℕ)) (xs : List Lexeme) (f : List ℕ) (given : List (Option (List ℕ) × Tree)) (stack : List Open) (start : Start) (ts mid : Tokens) → IsArgument start → frame_level kind + levels stack < 64
    → Begins (naming n ++ xs) ts mid
    → (us : Tokens) × (begin : Start) × (run ts (frame kind f given None ∷ stack) (wants start) ≡ run us (frame kind f given n ∷ stack) (wants begin)) × Begins xs us mid
names kind None xs f given stack start ts mid a low h = (ts, start, refl, h)
names kind (Some x) xs f given stack start ts mid a low h =
    let here = frame kind f given None ∷ stack in
    let fits : levels here < 64 = omega (arith, frame_levels kind f given None stack, low) in
    let g = goes_on (name x) (sign signs.Colon ∷ xs) ts mid here (wants start) here (maybe_named x) h (maybe_moves here start x a fits) in
    let k = goes_on (sign signs.Colon) xs g.0 mid here (maybe_named x) (frame kind f given (Some x) ∷ stack) (wants anywhere) g.2 (colon_moves kind f given stack x) in
    (k.0, anywhere, g.1 ∙ k.1, k.2)

closes_empty : (kind : Bool) (f : List ℕ) (stack : List Open) → move (frame kind f [] None ∷ stack) (wants first_argument) (sign signs.Close) ≡ goes stack (finished kind (call f (row [])))
closes_empty true f stack = refl
closes_empty false f stack = refl

closes_frame : (kind : Bool) (f : List ℕ) (given : List (Option (List ℕ) × Tree)) (this : Option (List ℕ)) (stack : List Open) (e : Tree) → closed (reduced 0 (frame kind f given this ∷ stack) e).0 (Some (reduced 0 (frame kind f given this ∷ stack) e).1)
    ≡ goes stack (finished kind (call f (row (given ++ (this, e) ∷ []))))
closes_frame true f given this stack e = refl
closes_frame false f given this stack e = refl

parts_frame : (kind : Bool) (f : List ℕ) (given : List (Option (List ℕ) × Tree)) (this : Option (List ℕ)) (stack : List Open) (e : Tree) → parted (reduced 0 (frame kind f given this ∷ stack) e)
    ≡ goes (frame kind f (given ++ (this, e) ∷ []) None ∷ stack) (wants next_argument)
parts_frame true f given this stack e = refl
parts_frame false f given this stack e = refl

rest_behind : (more : Forms) (ts mid : Tokens) → Begins (rest_spelled more) ts mid → Behind ts
rest_behind no_more ts mid h = behind_first (sign signs.Close) [] ts mid h refl refl
rest_behind (one_more n f more) ts mid h = behind_first (sign signs.Comma) (naming n ++ (spelled f ++ rest_spelled more)) ts mid h refl refl

height_some : (e : Tree) → 1 ≤ height e
height_some (text s) = omega arith
height_some (whole n) = omega arith
height_some (boolean b) = omega arith
height_some (field f) = omega arith
height_some (variable x) = omega arith
height_some (unary s e) = omega arith
height_some (binary s a b) = omega arith
height_some (call f given) = omega arith

mutual
  pub reads : (f : Form) (stack : List Open) (start : Start) (ts mid : Tokens) → IsLawful f → Begins (spelled f) ts mid → Ready (level f) stack → levels stack + height (meant f) ≤ 64 → parentheses stack + nested f ≤ 64 → Behind mid
      → run ts stack (wants start) ≡ run mid (pending f ++ stack) (has (last f))
  reads (a_string s) stack start ts mid l h r lv pn b =
      let g = goes_on (string s) [] ts mid stack (wants start) stack (has (text s)) h (leaf stack (text s) (omega (arith, lv))) in
      g.1 ∙ ap (λ (x : Tokens). run x stack (has (text s))) g.2
  reads (a_number n) stack start ts mid l h r lv pn b =
      let g = goes_on (number n) [] ts mid stack (wants start) stack (has (whole n)) h (leaf stack (whole n) (omega (arith, lv))) in
      g.1 ∙ ap (λ (x : Tokens). run x stack (has (whole n))) g.2
  reads (a_truth t) stack start ts mid l h r lv pn b =
      let g = goes_on (truth_sign t) [] ts mid stack (wants start) stack (has (boolean t)) h (truth_moves t stack start (omega (arith, lv))) in
      g.1 ∙ ap (λ (x : Tokens). run x stack (has (boolean t))) g.2
  reads (a_field f) stack start ts mid l h r lv pn b =
      let g = goes_on (sign signs.Message) (sign signs.Dot ∷ name f ∷ []) ts mid stack (wants start) stack message h (begins_within stack (goes stack message) (omega (arith, lv))) in
      let k = goes_on (sign signs.Dot) (name f ∷ []) g.0 mid stack message stack dotted g.2 refl in
      let m = goes_on (name f) [] k.0 mid stack dotted stack (has (field f)) k.2 refl in
      g.1 ∙ k.1 ∙ m.1 ∙ ap (λ (x : Tokens). run x stack (has (field f))) m.2
  reads (a_name n) stack start ts mid l h r lv pn b = name_reads n stack start ts ts mid (omega (arith, lv)) h b
  reads (before s f) stack start ts mid l h r lv pn b =
      let g = goes_on (prefix_lexeme s) (spelled f) ts mid stack (wants start) (prefix s ∷ stack) (wants anywhere) h (prefix_moves s stack start (omega (arith, lv)) r.negates) in
      g.1 ∙ reads f (prefix s ∷ stack) anywhere g.0 mid l.1 g.2 (ready_prefix s (level f) stack l.0) (omega (arith, lv, levels-prefix s stack)) (omega (arith, pn, parentheses-prefix s stack)) b
      ∙ ap (λ (st : List Open). run mid st (has (last f))) (sym (append_assoc (pending f) (prefix s ∷ []) stack))
  reads (between op x y) stack start ts mid l h r lv pn b =
      let p = split (spelled x) (operator op ∷ spelled y) ts mid h in
      let first = reads x stack start ts p.0 l.2 p.1 (tighter (precedence op) (level x) stack (omega (arith, precedence_threshold op, l.0)) r) (omega (arith, lv)) (omega (arith, pn)) (behind_first (operator op) (spelled y) p.0 mid p.2 refl refl) in
      let whole = completes x (threshold op) stack l.2 l.0 ∙ keeps (threshold op) stack (meant x) (r.stays op (precedence_threshold op)) in
      let joint = ap (joined op) whole ∙ joins op stack (meant x) (λ t. r.compares (comparison_level op t)) (omega (arith, lv)) in
      let g = goes_on (operator op) (spelled y) p.0 mid (pending x ++ stack) (has (last x)) (infix_ op (meant x) ∷ stack) (wants anywhere) p.2 joint in
      first ∙ g.1 ∙ reads y (infix_ op (meant x) ∷ stack) anywhere g.0 mid l.3 g.2 (ready_infix op (meant x) (level y) stack (omega (arith, l.1))) (omega (arith, lv, levels-infix op (meant x) stack)) (omega (arith, pn, parentheses-infix op (meant x) stack)) b
      ∙ ap (λ (st : List Open). run mid st (has (last y))) (sym (append_assoc (pending y) (infix_ op (meant x) ∷ []) stack))
  reads (inside f) stack start ts mid l h r lv pn b =
      let g = goes_on (sign signs.Open) (spelled f ++ sign signs.Close ∷ []) ts mid stack (wants start) (paren ∷ stack) (wants anywhere) h
      (begins_within stack (opening stack (goes (paren ∷ stack) (wants anywhere))) (omega (arith, lv, height_some (meant f))) ∙ begins_opening stack (goes (paren ∷ stack) (wants anywhere)) (omega (arith, pn))) in
      let p = split (spelled f) (sign signs.Close ∷ []) g.0 mid g.2 in
      let inner = reads f (paren ∷ stack) anywhere g.0 p.0 l p.1 (ready_paren (level f) stack) (omega (arith, lv, levels-paren stack)) (omega (arith, pn, parentheses-paren stack)) (behind_first (sign signs.Close) [] p.0 mid p.2 refl refl) in
      let shut = ap (λ (x : List Open × Tree). closed x.0 (Some x.1)) (completes f 0 (paren ∷ stack) l (omega arith)) in
      let k = goes_on (sign signs.Close) [] p.0 mid (pending f ++ paren ∷ stack) (has (last f)) stack (has (meant f)) p.2 shut in
      g.1 ∙ inner ∙ k.1 ∙ ap (λ (x : Tokens). run x stack (has (meant f))) k.2
  reads (calling f given) stack start ts mid l h r lv pn b =
      let g = call_opens f (first_spelled given) stack start ts mid (omega (arith, lv)) (omega (arith, pn)) h in
      g.1 ∙ reads_call true f given stack g.0 mid l g.2 (omega (arith, lv)) (omega (arith, pn))

  -- a call from behind its parenthesis on
  pub reads_call : (kind : Bool) (f : List ℕ) (given : Forms) (stack : List Open) (ts mid : Tokens) → AreLawful given → Begins (first_spelled given) ts mid → frame_level kind + levels stack + heights (row (pairs given)) ≤ 64 → parentheses stack + suc (all_nested given) ≤ 64
      → run ts (frame kind f [] None ∷ stack) (wants first_argument) ≡ run mid stack (finished kind (call f (row (pairs given))))
  reads_call kind f no_more stack ts mid l h lv pn =
      let g = goes_on (sign signs.Close) [] ts mid (frame kind f [] None ∷ stack) (wants first_argument) stack (finished kind (call f (row []))) h (closes_empty kind f stack) in
      g.1 ∙ ap (λ (x : Tokens). run x stack (finished kind (call f (row [])))) g.2
  reads_call kind f (one_more n e more) stack ts mid l h lv pn =
      let low : frame_level kind + levels stack < 64 = omega (arith, lv, height_some (meant e)) in
      let g = names kind n (spelled e ++ rest_spelled more) f [] stack first_argument ts mid tt low h in
      let p = split (spelled e) (rest_spelled more) g.0 mid g.3 in
      let here = frame kind f [] n ∷ stack in
      g.2 ∙ reads e here g.1 g.0 p.0 l.0 p.1 (ready_frame kind f [] n (level e) stack) (omega (arith, lv, frame_levels kind f [] n stack)) (omega (arith, pn, frame_parentheses kind f [] n stack)) (rest_behind more p.0 mid p.2)
      ∙ reads_rest kind f [] n e more stack p.0 mid l.0 l.1 p.2 (omega (arith, lv)) (omega (arith, pn))

  -- a call from behind an argument on
  reads_rest : (kind : Bool) (f : List ℕ) (given : List (Option (List ℕ) × Tree)) (this : Option (List ℕ)) (e : Form) (more : Forms) (stack : List Open) (ts mid : Tokens) → IsLawful e → AreLawful more → Begins (rest_spelled more) ts mid
      → frame_level kind + levels stack + heights (row (pairs more)) ≤ 64 → parentheses stack + suc (all_nested more) ≤ 64
      → run ts (pending e ++ frame kind f given this ∷ stack) (has (last e)) ≡ run mid stack (finished kind (call f (row (given ++ (this, meant e) ∷ pairs more))))
  reads_rest kind f given this e no_more stack ts mid le l h lv pn =
      let whole = completes e 0 (frame kind f given this ∷ stack) le (omega arith) in
      let shut = ap (λ (x : List Open × Tree). closed x.0 (Some x.1)) whole ∙ closes_frame kind f given this stack (meant e) in
      let g = goes_on (sign signs.Close) [] ts mid (pending e ++ frame kind f given this ∷ stack) (has (last e)) stack (finished kind (call f (row (given ++ (this, meant e) ∷ [])))) h shut in
      g.1 ∙ ap (λ (x : Tokens). run x stack (finished kind (call f (row (given ++ (this, meant e) ∷ []))))) g.2
  reads_rest kind f given this e (one_more n d more) stack ts mid le l h lv pn =
      let whole = completes e 0 (frame kind f given this ∷ stack) le (omega arith) in
      let so_far = given ++ (this, meant e) ∷ [] in
      let shut = ap parted whole ∙ parts_frame kind f given this stack (meant e) in
      let a = goes_on (sign signs.Comma) (naming n ++ (spelled d ++ rest_spelled more)) ts mid (pending e ++ frame kind f given this ∷ stack) (has (last e)) (frame kind f so_far None ∷ stack) (wants next_argument) h shut in
      let low : frame_level kind + levels stack < 64 = omega (arith, lv, height_some (meant d)) in
      let g = names kind n (spelled d ++ rest_spelled more) f so_far stack next_argument a.0 mid tt low a.2 in
      let p = split (spelled d) (rest_spelled more) g.0 mid g.3 in
      let here = frame kind f so_far n ∷ stack in
      a.1 ∙ g.2 ∙ reads d here g.1 g.0 p.0 l.0 p.1 (ready_frame kind f so_far n (level d) stack) (omega (arith, lv, frame_levels kind f so_far n stack)) (omega (arith, pn, frame_parentheses kind f so_far n stack)) (rest_behind more p.0 mid p.2)
      ∙ reads_rest kind f so_far n d more stack p.0 mid l.0 l.1 p.2 (omega (arith, lv)) (omega (arith, pn))
      ∙ ap (λ (x : List (Option (List ℕ) × Tree)). run mid stack (finished kind (call f (row x)))) (append_assoc given ((this, meant e) ∷ []) ((n, meant d) ∷ pairs more))

-- ---- the laws

ends_at : (x : Lexeme) (mid : Tokens) (stack : List Open) (e m : Tree) → first mid ≡ Some x → follows stack e x ≡ ends m → run mid stack (has e) ≡ Ok (m, mid)
unfolding run
ends_at x (end at) stack e m h k = absurd cc
ends_at x (token l at us) stack e m h k =
    let same : l ≡ x = cc in
    ap (λ (y : Lexeme). moved (follows stack e y) (run us) y at us) same ∙ ap (λ (mv : Move). moved mv (run us) x at us) k ∙ ap (λ (y : Lexeme). Ok (m, token y at us)) (sym same)

end_behind : (mid : Tokens) → EndsExpression mid → Behind mid
end_behind (end at) (inl h) = absurd cc
end_behind (end at) (inr h) = absurd cc
end_behind (token l at us) (inl h) = let same : l ≡ sign signs.Then = cc in (ap (λ (y : Lexeme). is_sign signs.Open (Some y)) same, ap (λ (y : Lexeme). is_sign signs.Colon (Some y)) same)
end_behind (token l at us) (inr h) = let same : l ≡ sign signs.Semicolon = cc in (ap (λ (y : Lexeme). is_sign signs.Open (Some y)) same, ap (λ (y : Lexeme). is_sign signs.Colon (Some y)) same)

form_ends : (f : Form) (mid : Tokens) → IsLawful f → EndsExpression mid → run mid (pending f ++ []) (has (last f)) ≡ Ok (meant f, mid)
form_ends f mid l (inl h) = ends_at (sign signs.Then) mid (pending f ++ []) (last f) (meant f) h (ap ended (completes f 0 [] l (omega arith)))
form_ends f mid l (inr h) = ends_at (sign signs.Semicolon) mid (pending f ++ []) (last f) (meant f) h (ap ended (completes f 0 [] l (omega arith)))

pub form_is_read : (f : Form) (ts mid : Tokens) → IsLawful f → Begins (spelled f) ts mid → height (meant f) ≤ 64 → nested f ≤ 64 → EndsExpression mid → run ts [] (wants anywhere) ≡ Ok (meant f, mid)
form_is_read f ts mid l h lv pn e =
    reads f [] anywhere ts mid l h (ready_empty (level f)) (omega (arith, lv)) (omega (arith, pn)) (end_behind mid e) ∙ form_ends f mid l e

-- tokens that begin with these
laid : List Lexeme → Tokens → Tokens
laid [] ts = ts
laid (x ∷ xs) ts = token x 0 (laid xs ts)

laid_begins : (xs : List Lexeme) (ts : Tokens) → Begins xs (laid xs ts) ts
unfolding laid
laid_begins [] ts = refl
laid_begins (x ∷ xs) ts = (refl, laid_begins xs ts)

abbrev tree_in : Reads Tree → Tree → Tree
tree_in (Ok x) e = x.0
tree_in (Err fault) e = e

pub one_meaning : (f g : Form) → IsLawful f → IsLawful g → height (meant f) ≤ 64 → nested f ≤ 64 → height (meant g) ≤ 64 → nested g ≤ 64 → spelled f ≡ spelled g → meant f ≡ meant g
one_meaning f g lf lg hf nf hg ng same =
    let behind : Tokens = token (sign signs.Then) 0 (end 0) in
    let ts = laid (spelled f) behind in
    let a : run ts [] (wants anywhere) ≡ Ok (meant f, behind) = form_is_read f ts behind lf (laid_begins (spelled f) behind) hf nf (inl refl) in
    let b : run ts [] (wants anywhere) ≡ Ok (meant g, behind) = form_is_read g ts behind lg (subst (λ (xs : List Lexeme). Begins xs ts behind) same (laid_begins (spelled f) behind)) hg ng (inl refl) in
    ap (λ (r : Reads Tree). tree_in r (meant f)) (sym a ∙ b)
