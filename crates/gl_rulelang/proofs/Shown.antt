-- The form in which a tree is shown is lawful, means that tree, and opens no more parentheses than the tree is high.
use Rattle.std.proofs.Common.{◌≡◌, ℕ, suc, ◌≤◌, Bool, true, false, [], Ok, refl, sym, ap, ap₂, subst, ◌∙◌, arith, lit≤}
use Rattle.gl_rulelang.specs.declared.rule.Unary.{Unary}
use Rattle.gl_rulelang.specs.declared.rule.Unary.TheVariants as prefixes
use Rattle.gl_rulelang.specs.declared.rule.Binary.{Binary}
use Rattle.gl_rulelang.specs.declared.rule.Binary.TheVariants as ops
use Rattle.gl_rulelang.specs.Tree.{Tree, text, whole, boolean, field, variable, unary, binary, call, Arguments, none, argument, row, height, heights, is_operation}
use Rattle.gl_rulelang.specs.Tokens.{Tokens}
use Rattle.gl_rulelang.specs.Nesting.{precedence, prefix_precedence, threshold}
use Rattle.gl_rulelang.specs.Expressions.{anywhere, wants, run}
use Rattle.gl_rulelang.specs.Grammar.{Form, spelled, meant, pairs, level, IsLawful, AreLawful, nested, all_nested, Begins, EndsExpression, operand_form, form_of, forms_of}
use Rattle.gl_rulelang.proofs.Forms.{form_is_read}

operand_means : (b : Bool) (f : Form) → meant (operand_form b f) ≡ meant f
operand_means true f = refl
operand_means false f = refl

operand_lawful : (b : Bool) (f : Form) → IsLawful f → IsLawful (operand_form b f)
operand_lawful true f l = l
operand_lawful false f l = l

-- an operand is as tight as can be
operand_level : (t : Tree) → level (operand_form (is_operation t) (form_of t)) ≡ 7
operand_level (text s) = refl
operand_level (whole n) = refl
operand_level (boolean b) = refl
operand_level (field f) = refl
operand_level (variable x) = refl
operand_level (unary s e) = refl
operand_level (binary op a b) = refl
operand_level (call f given) = refl

prefix_low : (s : Unary) → prefix_precedence s ≤ 7
prefix_low prefixes.Not = lit≤ tt
prefix_low prefixes.Minus = lit≤ tt

infix_low : (op : Binary) → (threshold op ≤ 7) × (suc (precedence op) ≤ 7)
infix_low ops.Or = (lit≤ tt, lit≤ tt)
infix_low ops.And = (lit≤ tt, lit≤ tt)
infix_low ops.Equal = (lit≤ tt, lit≤ tt)
infix_low ops.NotEqual = (lit≤ tt, lit≤ tt)
infix_low ops.Less = (lit≤ tt, lit≤ tt)
infix_low ops.AtMost = (lit≤ tt, lit≤ tt)
infix_low ops.Greater = (lit≤ tt, lit≤ tt)
infix_low ops.AtLeast = (lit≤ tt, lit≤ tt)
infix_low ops.Plus = (lit≤ tt, lit≤ tt)
infix_low ops.Minus = (lit≤ tt, lit≤ tt)
infix_low ops.Times = (lit≤ tt, lit≤ tt)
infix_low ops.Divide = (lit≤ tt, lit≤ tt)
infix_low ops.Remainder = (lit≤ tt, lit≤ tt)

mutual
  pub shown_means : (t : Tree) → meant (form_of t) ≡ t
  shown_means (text s) = refl
  shown_means (whole n) = refl
  shown_means (boolean b) = refl
  shown_means (field f) = refl
  shown_means (variable x) = refl
  shown_means (unary s e) = ap (unary s) (operand_means (is_operation e) (form_of e) ∙ shown_means e)
  shown_means (binary op a b) = ap₂ (binary op) (operand_means (is_operation a) (form_of a) ∙ shown_means a) (operand_means (is_operation b) (form_of b) ∙ shown_means b)
  shown_means (call f given) = ap (call f) (shown_row given)

  pub shown_row : (given : Arguments) → row (pairs (forms_of given)) ≡ given
  shown_row none = refl
  shown_row (argument n e given) = ap₂ (argument n) (shown_means e) (shown_row given)

mutual
  pub shown_lawful : (t : Tree) → IsLawful (form_of t)
  shown_lawful (text s) = tt
  shown_lawful (whole n) = tt
  shown_lawful (boolean b) = tt
  shown_lawful (field f) = tt
  shown_lawful (variable x) = tt
  shown_lawful (unary s e) = (omega (arith, prefix_low s, operand_level e), operand_lawful (is_operation e) (form_of e) (shown_lawful e))
  shown_lawful (binary op a b) =
      let low = infix_low op in
      (omega (arith, low.0, operand_level a), omega (arith, low.1, operand_level b), operand_lawful (is_operation a) (form_of a) (shown_lawful a), operand_lawful (is_operation b) (form_of b) (shown_lawful b))
  shown_lawful (call f given) = all_lawful given

  pub all_lawful : (given : Arguments) → AreLawful (forms_of given)
  all_lawful none = tt
  all_lawful (argument n e given) = (shown_lawful e, all_lawful given)

operand_nests : (b : Bool) (f : Form) (n : ℕ) → nested f ≤ n → nested (operand_form b f) ≤ suc n
operand_nests true f n h = omega (arith, h)
operand_nests false f n h = omega (arith, h)

mutual
  pub shown_nests : (t : Tree) → nested (form_of t) ≤ height t
  shown_nests (text s) = omega arith
  shown_nests (whole n) = omega arith
  shown_nests (boolean b) = omega arith
  shown_nests (field f) = omega arith
  shown_nests (variable x) = omega arith
  shown_nests (unary s e) = operand_nests (is_operation e) (form_of e) (height e) (shown_nests e)
  shown_nests (binary op a b) =
      let x = operand_nests (is_operation a) (form_of a) (height a) (shown_nests a) in
      let y = operand_nests (is_operation b) (form_of b) (height b) (shown_nests b) in
      omega (arith, x, y)
  shown_nests (call f given) = let h = all_nest given in omega (arith, h)

  all_nest : (given : Arguments) → all_nested (forms_of given) ≤ heights given
  all_nest none = omega arith
  all_nest (argument n e given) = let x = shown_nests e in let y = all_nest given in omega (arith, x, y)

pub shown_is_read : (t : Tree) (ts behind : Tokens) → Begins (spelled (form_of t)) ts behind → height t ≤ 64 → EndsExpression behind → run ts [] (wants anywhere) ≡ Ok (t, behind)
shown_is_read t ts behind h high e =
    let same = shown_means t in
    let bound : height (meant (form_of t)) ≤ 64 = subst (λ (x : Tree). height x ≤ 64) (sym same) high in
    let nests = shown_nests t in
    form_is_read (form_of t) ts behind (shown_lawful t) h bound (omega (arith, nests, high)) e ∙ ap (λ (x : Tree). Ok (x, behind)) same
