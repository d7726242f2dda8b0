-- The text of a tree in Polish notation.
use Rattle.std.proofs.Common.{◌≡◌, ℕ, ◌+◌, ◌<◌, ◌≤◌, ◌==◌, false, cond, List, [], ◌∷◌, ◌++◌, length, codes, sym, ap, ◌∙◌, subst, arith, append_assoc, length-append, Result, Ok, Err, IfOk}
use Rattle.std.proofs.lemmas.Bool.Decides.{nat_tests}
use Rattle.std.proofs.lemmas.List.{append-nil}
use Rattle.gl_query.specs.declared.term.Term.{Term}
use Rattle.gl_query.specs.declared.term.Node.{Node}
use Rattle.gl_query.specs.declared.term.Node.TheVariants.{Leaf, Negation, Both, Either}
use Rattle.gl_query.specs.Tree.{Tree, leaf, negation, both, either, Trees, none, also, count, polish, polish_all}
use Rattle.gl_query.specs.Printing.{term_text, tree_text, members_text, Prints}

-- the sign before a member
abbrev pub sign_before : ℕ → List ℕ → List ℕ
sign_before done sign = cond (done == 0) [] sign

-- the members so far, and those that are left
pub record MembersSoFar (ts : Trees) (rest left : List Node) (sign before after : List ℕ) (done n : ℕ) : Type 0 where
  pub us : Trees
  pub at : left ≡ polish_all us ++ rest
  pub counted : count us + done ≡ n
  pub written : after ++ members_text (sign_before done sign) sign us ≡ before ++ members_text [] sign ts

sign_next : (done : ℕ) (sign : List ℕ) → sign_before (done + 1) sign ≡ sign
sign_next done sign = ap (λ x. cond x [] sign) (more done)
  where
    more : (n : ℕ) → (n + 1 == 0) ≡ false
    more n = grind (arith, nat_tests)

module _ (ts : Trees) (rest left : List Node) (sign before after : List ℕ) (done n : ℕ) where
  pub members_more : (signed next : List ℕ) (behind : List Node) → done < n → signed ≡ after ++ sign_before done sign → Prints signed next behind left
      → MembersSoFar ts rest left sign before after done n → MembersSoFar ts rest behind sign before next (done + 1) n
  members_more signed next behind lt s g v = go v.us v.at v.counted v.written
    where
      go : (us : Trees) → left ≡ polish_all us ++ rest → count us + done ≡ n → after ++ members_text (sign_before done sign) sign us ≡ before ++ members_text [] sign ts
          → MembersSoFar ts rest behind sign before next (done + 1) n
      go none at counted h = absurd (omega (arith, counted))
      go (also u us) at counted h =
          let r = g u (polish_all us ++ rest) (at ∙ append_assoc (polish u) (polish_all us) rest) in
          let m = members_text sign sign us in
          record {
            us = us;
            at = r.1;
            counted = omega (arith, counted);
            written =
                ap (λ x. next ++ members_text x sign us) (sign_next done sign)
                ∙ ap (λ x. x ++ m) (r.0 ∙ ap (λ x. x ++ tree_text u) s)
                ∙ append_assoc (after ++ sign_before done sign) (tree_text u) m
                ∙ append_assoc after (sign_before done sign) (tree_text u ++ m)
                ∙ h;
          }

  pub members_done : (last : List ℕ) (whole : List ℕ) → n ≤ done → before ≡ whole ++ codes "(" → last ≡ after ++ codes ")" → MembersSoFar ts rest left sign before after done n
      → (last ≡ whole ++ (codes "(" ++ (members_text [] sign ts ++ codes ")"))) × (left ≡ rest)
  members_done last whole le b e v = go v.us v.at v.counted v.written
    where
      go : (us : Trees) → left ≡ polish_all us ++ rest → count us + done ≡ n → after ++ members_text (sign_before done sign) sign us ≡ before ++ members_text [] sign ts
          → (last ≡ whole ++ (codes "(" ++ (members_text [] sign ts ++ codes ")"))) × (left ≡ rest)
      go none at counted h = (
        e
            ∙ ap (λ x. x ++ codes ")") (sym (append-nil after) ∙ h ∙ ap (λ x. x ++ members_text [] sign ts) b)
            ∙ append_assoc (whole ++ codes "(") (members_text [] sign ts) (codes ")")
            ∙ append_assoc whole (codes "(") (members_text [] sign ts ++ codes ")"),
        at,
      )
      go (also u us) at counted h = absurd (omega (arith, counted))

pub on_ok : {A E : Type 0} {P Q : A → Type 0} (r : Result A E) → ((x : A) → P x → Q x) → IfOk r P → IfOk r Q
on_ok (Ok x) f h = f x h
on_ok (Err e) f h = tt

module _ (before after : List ℕ) (left : List Node) where
  pub prints_leaf : (x : Term) → after ≡ before ++ term_text x → Prints before after left (Leaf x ∷ left)
  prints_leaf x e (leaf y) rest h =
      let same : x ≡ y = cc h in
      (e ∙ ap (λ z. before ++ term_text z) same, (cc h))
  prints_leaf x e (negation u) rest h = cc h
  prints_leaf x e (both ts) rest h = cc h
  prints_leaf x e (either ts) rest h = cc h

  pub prints_negation : (begun inside : List ℕ) (more : List Node) → begun ≡ before ++ codes "(NOT " → Prints begun inside left more → after ≡ inside ++ codes ")" → Prints before after left (Negation ∷ more)
  prints_negation begun inside more b g e (leaf y) rest h = cc h
  prints_negation begun inside more b g e (negation u) rest h =
      let at : more ≡ polish u ++ rest = cc h in
      let r = g u rest at in (
        e
            ∙ ap (λ x. x ++ codes ")") (r.0 ∙ ap (λ x. x ++ tree_text u) b)
            ∙ append_assoc (before ++ codes "(NOT ") (tree_text u) (codes ")")
            ∙ append_assoc before (codes "(NOT ") (tree_text u ++ codes ")"),
        r.1,
      )
  prints_negation begun inside more b g e (both ts) rest h = cc h
  prints_negation begun inside more b g e (either ts) rest h = cc h

  abbrev PrintsMembers : List ℕ → ℕ → List Node → Type 0
  PrintsMembers sign n more = (ts : Trees) (rest : List Node) → n ≡ count ts → more ≡ polish_all ts ++ rest
      → (after ≡ before ++ (codes "(" ++ (members_text [] sign ts ++ codes ")"))) × (left ≡ rest)

  pub prints_both : (n : ℕ) (more : List Node) (sign : List ℕ) → sign ≡ codes " AND " → PrintsMembers sign n more → Prints before after left (Both n ∷ more)
  prints_both n more sign s g (leaf y) rest h = cc h
  prints_both n more sign s g (negation u) rest h = cc h
  prints_both n more sign s g (both ts) rest h =
      let c : n ≡ count ts = cc h in
      let e : more ≡ polish_all ts ++ rest = cc h in
      subst (λ x. (after ≡ before ++ (codes "(" ++ (members_text [] x ts ++ codes ")"))) × (left ≡ rest)) s (g ts rest c e)
  prints_both n more sign s g (either ts) rest h = cc h

  pub prints_either : (n : ℕ) (more : List Node) (sign : List ℕ) → sign ≡ codes " OR " → PrintsMembers sign n more → Prints before after left (Either n ∷ more)
  prints_either n more sign s g (leaf y) rest h = cc h
  prints_either n more sign s g (negation u) rest h = cc h
  prints_either n more sign s g (both ts) rest h = cc h
  prints_either n more sign s g (either ts) rest h =
      let c : n ≡ count ts = cc h in
      let e : more ≡ polish_all ts ++ rest = cc h in
      subst (λ x. (after ≡ before ++ (codes "(" ++ (members_text [] x ts ++ codes ")"))) × (left ≡ rest)) s (g ts rest c e)

pub prints_none : (before after : List ℕ) (left nodes : List Node) → length nodes ≡ 0 → Prints before after left nodes
prints_none before after left nodes e t rest h = absurd (some t (omega (arith, ap length h, length-append (polish t) rest)))
  where
    some : (t : Tree) → length (polish t) ≡ 0 → ⊥
    some (leaf x) e = omega arith
    some (negation u) e = omega arith
    some (both ts) e = omega arith
    some (either ts) e = omega arith

pub prints_whole : (before after : List ℕ) (left nodes : List Node) → before ≡ [] → Prints before after left nodes → (t : Tree) → nodes ≡ polish t → after ≡ tree_text t
prints_whole before after left nodes b g t e = (g t [] (e ∙ sym (append-nil (polish t)))).0 ∙ ap (λ x. x ++ tree_text t) b
