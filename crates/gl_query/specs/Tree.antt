-- The tree of a query, and its Polish notation (this project).
use Rattle.std.specs.Prelude.{ℕ, zero, suc, ◌+◌, List, [], ◌∷◌, ◌++◌}
use Rattle.gl_query.specs.declared.term.Term.{Term}
use Rattle.gl_query.specs.declared.term.Node.{Node}
use Rattle.gl_query.specs.declared.term.Node.TheVariants.{Leaf, Negation, Both, Either}

mutual
  -- a term, NOT, AND and OR with their members
  pub data Tree : Type 0 where
    leaf : Term → Tree
    negation : Tree → Tree
    both : Trees → Tree
    either : Trees → Tree

  pub data Trees : Type 0 where
    none : Trees
    also : Tree → Trees → Trees

abbrev pub count : Trees → ℕ
count none = 0
count (also t ts) = count ts + 1

-- each operation before its members
abbrev mutual
  pub polish : Tree → List Node
  polish (leaf t) = Leaf t ∷ []
  polish (negation t) = Negation ∷ polish t
  polish (both ts) = Both (count ts) ∷ polish_all ts
  polish (either ts) = Either (count ts) ∷ polish_all ts

  pub polish_all : Trees → List Node
  polish_all none = []
  polish_all (also t ts) = polish t ++ polish_all ts

-- with one more at the end
abbrev pub push : Trees → Tree → Trees
push none t = also t none
push (also u us) t = also u (push us t)

-- one stands for itself
abbrev pub one_of : (Trees → Tree) → Trees → Tree
one_of make none = make none
one_of make (also t none) = t
one_of make (also t (also u us)) = make (also t (also u us))

-- with so many NOT before it
abbrev pub negated : ℕ → Tree → Tree
negated zero t = t
negated (suc n) t = negation (negated n t)
