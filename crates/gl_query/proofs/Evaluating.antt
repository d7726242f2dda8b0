-- Whether a tree in Polish notation holds.
use Rattle.std.proofs.Common.{◌≡◌, ℕ, ◌+◌, ◌<◌, ◌≤◌, Bool, true, false, not, ◌&&◌, ◌||◌, List, [], ◌∷◌, ◌++◌, length, refl, sym, ap, ◌∙◌, arith, append_assoc, length-append}
use Rattle.std.proofs.lemmas.List.{append-nil}
use Rattle.gl_fields.specs.declared.field.Field.{Field}
use Rattle.gl_query.specs.declared.term.Term.{Term}
use Rattle.gl_query.specs.declared.term.Node.{Node}
use Rattle.gl_query.specs.declared.term.Node.TheVariants.{Leaf, Negation, Both, Either}
use Rattle.gl_query.specs.Tree.{Tree, leaf, negation, both, either, Trees, none, also, count, polish, polish_all}
use Rattle.gl_query.specs.Evaluation.{Gives}
use Rattle.gl_query.specs.Matching.{term_holds, holds, all_hold, one_holds}

module _ (fields : List Field) (result : Bool) (left : List Node) where
  pub leaf_arm : (x : Term) → result ≡ term_holds x fields → Gives fields result left (Leaf x ∷ left)
  leaf_arm x e (leaf y) rest h =
      let same : x ≡ y = cc h in
      (e ∙ ap (λ z. term_holds z fields) same, (cc h))
  leaf_arm x e (negation u) rest h = cc h
  leaf_arm x e (both ts) rest h = cc h
  leaf_arm x e (either ts) rest h = cc h

module _ (fields : List Field) (one : Bool) (left more : List Node) where
  pub negation_arm : Gives fields one left more → Gives fields (not one) left (Negation ∷ more)
  negation_arm g (leaf y) rest h = cc h
  negation_arm g (negation u) rest h =
      let e : more ≡ polish u ++ rest = cc h in
      let r = g u rest e in
      (ap not r.0, r.1)
  negation_arm g (both ts) rest h = cc h
  negation_arm g (either ts) rest h = cc h

  pub both_arm : (n : ℕ) → ((ts : Trees) (rest : List Node) → n ≡ count ts → more ≡ polish_all ts ++ rest → (one ≡ all_hold ts fields) × (left ≡ rest)) → Gives fields one left (Both n ∷ more)
  both_arm n g (leaf y) rest h = cc h
  both_arm n g (negation u) rest h = cc h
  both_arm n g (both ts) rest h =
      let c : n ≡ count ts = cc h in
      let e : more ≡ polish_all ts ++ rest = cc h in
      g ts rest c e
  both_arm n g (either ts) rest h = cc h

  pub either_arm : (n : ℕ) → ((ts : Trees) (rest : List Node) → n ≡ count ts → more ≡ polish_all ts ++ rest → (one ≡ one_holds ts fields) × (left ≡ rest)) → Gives fields one left (Either n ∷ more)
  either_arm n g (leaf y) rest h = cc h
  either_arm n g (negation u) rest h = cc h
  either_arm n g (both ts) rest h = cc h
  either_arm n g (either ts) rest h =
      let c : n ≡ count ts = cc h in
      let e : more ≡ polish_all ts ++ rest = cc h in
      g ts rest c e

-- the members so far, and those that are left
pub record AllSoFar (fields : List Field) (ts : Trees) (rest left : List Node) (so_far : Bool) (done n : ℕ) : Type 0 where
  pub us : Trees
  pub at : left ≡ polish_all us ++ rest
  pub counted : count us + done ≡ n
  pub holds_so_far : all_hold ts fields ≡ (so_far && all_hold us fields)

pub record OneSoFar (fields : List Field) (ts : Trees) (rest left : List Node) (so_far : Bool) (done n : ℕ) : Type 0 where
  pub us : Trees
  pub at : left ≡ polish_all us ++ rest
  pub counted : count us + done ≡ n
  pub holds_so_far : one_holds ts fields ≡ (so_far || one_holds us fields)

and_assoc : (a b c : Bool) → (a && (b && c)) ≡ ((a && b) && c)
and_assoc true b c = refl
and_assoc false b c = refl

or_assoc : (a b c : Bool) → (a || (b || c)) ≡ ((a || b) || c)
or_assoc true b c = refl
or_assoc false b c = refl

and_true : (a : Bool) → (a && true) ≡ a
and_true true = refl
and_true false = refl

or_false : (a : Bool) → (a || false) ≡ a
or_false true = refl
or_false false = refl

module _ (fields : List Field) (ts : Trees) (rest left : List Node) (so_far : Bool) (done n : ℕ) where
  pub all_more : (one : Bool) (after : List Node) → done < n → Gives fields one after left → AllSoFar fields ts rest left so_far done n → AllSoFar fields ts rest after (so_far && one) (done + 1) n
  all_more one after lt g v = go v.us v.at v.counted v.holds_so_far
    where
      go : (us : Trees) → left ≡ polish_all us ++ rest → count us + done ≡ n → all_hold ts fields ≡ (so_far && all_hold us fields) → AllSoFar fields ts rest after (so_far && one) (done + 1) n
      go none at counted h = absurd (omega (arith, counted))
      go (also u us) at counted h =
          let r = g u (polish_all us ++ rest) (at ∙ append_assoc (polish u) (polish_all us) rest) in
          record {
            us = us;
            at = r.1;
            counted = omega (arith, counted);
            holds_so_far = h ∙ ap (λ b. so_far && (b && all_hold us fields)) (sym r.0) ∙ and_assoc so_far one (all_hold us fields);
          }

  pub all_done : n ≤ done → AllSoFar fields ts rest left so_far done n → (so_far ≡ all_hold ts fields) × (left ≡ rest)
  all_done le v = go v.us v.at v.counted v.holds_so_far
    where
      go : (us : Trees) → left ≡ polish_all us ++ rest → count us + done ≡ n → all_hold ts fields ≡ (so_far && all_hold us fields) → (so_far ≡ all_hold ts fields) × (left ≡ rest)
      go none at counted h = (sym (h ∙ and_true so_far), at)
      go (also u us) at counted h = absurd (omega (arith, counted))

  pub one_more : (one : Bool) (after : List Node) → done < n → Gives fields one after left → OneSoFar fields ts rest left so_far done n → OneSoFar fields ts rest after (so_far || one) (done + 1) n
  one_more one after lt g v = go v.us v.at v.counted v.holds_so_far
    where
      go : (us : Trees) → left ≡ polish_all us ++ rest → count us + done ≡ n → one_holds ts fields ≡ (so_far || one_holds us fields) → OneSoFar fields ts rest after (so_far || one) (done + 1) n
      go none at counted h = absurd (omega (arith, counted))
      go (also u us) at counted h =
          let r = g u (polish_all us ++ rest) (at ∙ append_assoc (polish u) (polish_all us) rest) in
          record {
            us = us;
            at = r.1;
            counted = omega (arith, counted);
            holds_so_far = h ∙ ap (λ b. so_far || (b || one_holds us fields)) (sym r.0) ∙ or_assoc so_far one (one_holds us fields);
          }

  pub one_done : n ≤ done → OneSoFar fields ts rest left so_far done n → (so_far ≡ one_holds ts fields) × (left ≡ rest)
  one_done le v = go v.us v.at v.counted v.holds_so_far
    where
      go : (us : Trees) → left ≡ polish_all us ++ rest → count us + done ≡ n → one_holds ts fields ≡ (so_far || one_holds us fields) → (so_far ≡ one_holds ts fields) × (left ≡ rest)
      go none at counted h = (sym (h ∙ or_false so_far), at)
      go (also u us) at counted h = absurd (omega (arith, counted))

pub none_arm : (fields : List Field) (result : Bool) (left nodes : List Node) → length nodes ≡ 0 → Gives fields result left nodes
none_arm fields result left nodes e t rest h = absurd (some t (omega (arith, ap length h, length-append (polish t) rest)))
  where
    some : (t : Tree) → length (polish t) ≡ 0 → ⊥
    some (leaf x) e = omega arith
    some (negation u) e = omega arith
    some (both ts) e = omega arith
    some (either ts) e = omega arith

pub whole : (fields : List Field) (result : Bool) (left nodes : List Node) → Gives fields result left nodes → (t : Tree) → nodes ≡ polish t → result ≡ holds t fields
whole fields result left nodes g t e = (g t [] (e ∙ sym (append-nil (polish t)))).0
