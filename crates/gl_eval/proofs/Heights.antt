-- What stands inside an expression nests less deep.
use Rattle.std.proofs.Common.{◌≡◌, ℕ, zero, suc, ◌+◌, ◌*◌, ◌<◌, ◌≤◌, List, [], ◌∷◌, drop, refl, sym, ap, ◌∙◌, arith}
use Rattle.std.specs.Prelude.{max, Option}
use Rattle.gl_rulelang.specs.declared.rule.Expr.{Expr}
use Rattle.gl_rulelang.specs.declared.rule.Unary.{Unary}
use Rattle.gl_rulelang.specs.declared.rule.Binary.{Binary}
use Rattle.gl_rulelang.specs.Tree.{Tree, tree_of, args_view, row, Arguments, unary, binary, call_tree, height, heights}
use Rattle.gl_eval.proofs.Rows.{Given}

pub item_lower : (i : ℕ) (xs : Given) (x : Option (List ℕ) × Expr) (rest : Given) → drop i xs ≡ x ∷ rest → height (tree_of x.1) ≤ heights (row (args_view xs))
item_lower zero xs x rest e = omega (arith, ap (λ (ys : Given). heights (row (args_view ys))) e)
item_lower (suc i) [] x rest e = absurd (cc)
item_lower (suc i) (y ∷ ys) x rest e = omega (arith, item_lower i ys x rest e)

pub item_measure : (i : ℕ) (xs : Given) (x : Option (List ℕ) × Expr) (rest : Given) → drop i xs ≡ x ∷ rest → 3 * height (tree_of x.1) < 3 * heights (row (args_view xs)) + 1
item_measure i xs x rest e = omega (arith, item_lower i xs x rest e)

pub unary_measure : (sign : Unary) (e operand : Tree) → e ≡ unary sign operand → 3 * height operand < 3 * height e
unary_measure sign e operand is = omega (arith, ap height is)

pub first_measure : (sign : Binary) (e first second : Tree) → e ≡ binary sign first second → 3 * height first < 3 * height e
first_measure sign e first second is = omega (arith, ap height is)

pub second_measure : (sign : Binary) (e first second : Tree) → e ≡ binary sign first second → 3 * height second < 3 * height e
second_measure sign e first second is = omega (arith, ap height is)

pub call_measure : (e : Tree) (c : List ℕ × Arguments) → e ≡ call_tree c → 3 * heights c.1 + 2 < 3 * height e
call_measure e c is = omega (arith, ap height is)

pub arguments_measure : (g h : Arguments) → g ≡ h → 3 * heights g + 1 < 3 * heights h + 2
arguments_measure g h is = omega (arith, ap heights is)
