-- A list of nodes is the Polish notation of one tree at most.
use Rattle.std.proofs.Common.{◌≡◌, List, [], ◌++◌, refl, sym, ap, ◌∙◌, arith, append_assoc, append-nil}
use Rattle.gl_query.specs.declared.term.Node.{Node}
use Rattle.gl_query.specs.Tree.{Tree, leaf, negation, both, either, Trees, none, also, count, polish, polish_all}

abbrev SameTree : Tree → Tree → List Node → List Node → Type 0
SameTree t u r s = (t ≡ u) × (r ≡ s)

abbrev SameTrees : Trees → Trees → List Node → List Node → Type 0
SameTrees ts us r s = (ts ≡ us) × (r ≡ s)

mutual
  one_tree : (t u : Tree) (r s : List Node) → polish t ++ r ≡ polish u ++ s → SameTree t u r s
  one_tree (leaf x) (leaf y) r s h = let e : x ≡ y = cc h in (ap leaf e, (cc h))
  one_tree (leaf x) (negation u) r s h = cc h
  one_tree (leaf x) (both us) r s h = cc h
  one_tree (leaf x) (either us) r s h = cc h
  one_tree (negation t) (leaf y) r s h = cc h
  one_tree (negation t) (negation u) r s h =
      let e : polish t ++ r ≡ polish u ++ s = cc h in
      let same = one_tree t u r s e in
      (ap negation same.0, same.1)
  one_tree (negation t) (both us) r s h = cc h
  one_tree (negation t) (either us) r s h = cc h
  one_tree (both ts) (leaf y) r s h = cc h
  one_tree (both ts) (negation u) r s h = cc h
  one_tree (both ts) (both us) r s h =
      let n : count ts ≡ count us = cc h in
      let e : polish_all ts ++ r ≡ polish_all us ++ s = cc h in
      let same = same_trees ts us r s n e in
      (ap both same.0, same.1)
  one_tree (both ts) (either us) r s h = cc h
  one_tree (either ts) (leaf y) r s h = cc h
  one_tree (either ts) (negation u) r s h = cc h
  one_tree (either ts) (both us) r s h = cc h
  one_tree (either ts) (either us) r s h =
      let n : count ts ≡ count us = cc h in
      let e : polish_all ts ++ r ≡ polish_all us ++ s = cc h in
      let same = same_trees ts us r s n e in
      (ap either same.0, same.1)

  same_trees : (ts us : Trees) (r s : List Node) → count ts ≡ count us → polish_all ts ++ r ≡ polish_all us ++ s → SameTrees ts us r s
  same_trees none none r s n h = (refl, h)
  same_trees none (also u us) r s n h = absurd (omega (arith, n))
  same_trees (also t ts) none r s n h = absurd (omega (arith, n))
  same_trees (also t ts) (also u us) r s n h =
      let first = one_tree t u (polish_all ts ++ r) (polish_all us ++ s) (sym (append_assoc (polish t) (polish_all ts) r) ∙ h ∙ append_assoc (polish u) (polish_all us) s) in
      let m : count ts ≡ count us = omega (arith, n) in
      let more = same_trees ts us r s m first.1 in
      (ap (λ v. also v ts) first.0 ∙ ap (λ vs. also u vs) more.0, more.1)

pub same_tree : (t u : Tree) → polish t ≡ polish u → t ≡ u
same_tree t u h = (one_tree t u [] [] (append-nil (polish t) ∙ h ∙ sym (append-nil (polish u)))).0
