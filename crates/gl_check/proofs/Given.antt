-- Arguments as the code has them, and as a call of a tree has them.
use Rattle.std.proofs.Common.{◌≡◌, ℕ, List, [], ◌∷◌, Option, refl, ap}
use Rattle.gl_rulelang.specs.declared.rule.Expr.{Expr}
use Rattle.gl_rulelang.specs.Tree.{Tree, args_view, row, tree_of}
use Rattle.gl_check.specs.Arguments.{Names, names_in, trees_in, names_view, trees_view}

pub names_same : (given : List (Option (List ℕ) × Expr)) → names_in (row (args_view given)) ≡ names_view given
names_same [] = refl
names_same (a ∷ given) = ap (λ (names : Names). a.0 ∷ names) (names_same given)

pub trees_same : (given : List (Option (List ℕ) × Expr)) → trees_in (row (args_view given)) ≡ trees_view given
trees_same [] = refl
trees_same (a ∷ given) = ap (λ (trees : List Tree). tree_of a.1 ∷ trees) (trees_same given)
