-- What is found for a tree in Polish notation.
use Rattle.std.proofs.Common.{◌≡◌, Bool, true, false, IfOk, Result, Ok, Err, ℕ, ◌+◌, ◌<◌, ◌≤◌, List, [], ◌∷◌, ◌++◌, length, fold, Option, Some, None, refl, sym, ap, ◌∙◌, arith, append_assoc, length-append}
use Rattle.std.proofs.lemmas.List.{append-nil}
use Rattle.gl_indexset.specs.declared.row.Row.{Row}
use Rattle.gl_query.specs.declared.term.Term.{Term}
use Rattle.gl_query.specs.declared.term.Node.{Node}
use Rattle.gl_query.specs.declared.term.Node.TheVariants.{Leaf, Negation, Both, Either}
use Rattle.gl_query.specs.Tree.{Tree, leaf, negation, both, either, Trees, none, also, count, polish, polish_all}
use Rattle.gl_words.specs.Candidates.{positions}
use Rattle.gl_words.specs.declared.postings.Postings.{Postings}
use Rattle.gl_words.specs.Words.{StandsFor}
use Rattle.gl_covers.specs.Covers.{Terms, all_joined, cover, covered, covers, narrowest, term_cover}
use Rattle.gl_covers.specs.Suspects.{Suspects, SuspectsOfAll, found_by}

-- what was found for the members so far, and those that are left
pub record SoFar (wanted : Bool) (rows : List Row) (step : Option Terms → Option Terms → Option Terms) (all : Option Terms) (rest left : List Node) (found : Option (List ℕ)) (done n : ℕ) : Type 0 where
  pub us : Trees
  pub before : Option Terms
  pub at : left ≡ polish_all us ++ rest
  pub counted : count us + done ≡ n
  pub found_is : wanted ≡ true → found ≡ found_by rows before
  pub all_is : fold step before (covers rows us) ≡ all

module _ (wanted : Bool) (rows : List Row) (step : Option Terms → Option Terms → Option Terms) (all : Option Terms) (rest left : List Node) (found : Option (List ℕ)) (done n : ℕ) where
  pub members_more : (words : Postings) (next new : Option (List ℕ)) (behind : List Node) → StandsFor words rows → done < n → Suspects wanted words next behind left
      → ((a b : Option Terms) → found ≡ found_by rows a → next ≡ found_by rows b → new ≡ found_by rows (step a b))
      → SoFar wanted rows step all rest left found done n → SoFar wanted rows step all rest behind new (done + 1) n
  members_more words next new behind stands lt s steps v = go v.us v.at v.counted v.all_is
    where
      go : (us : Trees) → left ≡ polish_all us ++ rest → count us + done ≡ n → fold step v.before (covers rows us) ≡ all → SoFar wanted rows step all rest behind new (done + 1) n
      go none at counted h = absurd (omega (arith, counted))
      go (also u us) at counted h =
          let r = s rows stands u (polish_all us ++ rest) (at ∙ append_assoc (polish u) (polish_all us) rest) in
          record {
            us = us;
            before = step v.before (cover rows u);
            at = r.1;
            counted = omega (arith, counted);
            found_is = λ w. steps v.before (cover rows u) (v.found_is w) (r.0 w);
            all_is = h;
          }

  pub members_done : n ≤ done → SoFar wanted rows step all rest left found done n → (wanted ≡ true → found ≡ found_by rows all) × (left ≡ rest)
  members_done le v = go v.us v.at v.counted v.all_is
    where
      go : (us : Trees) → left ≡ polish_all us ++ rest → count us + done ≡ n → fold step v.before (covers rows us) ≡ all → (wanted ≡ true → found ≡ found_by rows all) × (left ≡ rest)
      go none at counted h = (λ w. v.found_is w ∙ ap (found_by rows) h, at)
      go (also u us) at counted h = absurd (omega (arith, counted))

pub members_none : (wanted : Bool) (rows : List Row) (step : Option Terms → Option Terms → Option Terms) (before : Option Terms) (ts : Trees) (rest nodes : List Node) (found : Option (List ℕ)) (n : ℕ)
    → n ≡ count ts → nodes ≡ polish_all ts ++ rest → found ≡ found_by rows before → SoFar wanted rows step (fold step before (covers rows ts)) rest nodes found 0 n
members_none wanted rows step before ts rest nodes found n counted at is = record { us = ts; before = before; at = at; counted = omega (arith, counted); found_is = λ w. is; all_is = refl }

module _ (wanted : Bool) (words : Postings) (found : Option (List ℕ)) (left : List Node) where
  pub leaf_arm : (x : Term) → ((rows : List Row) → StandsFor words rows → wanted ≡ true → found ≡ found_by rows (term_cover rows x)) → Suspects wanted words found left (Leaf x ∷ left)
  leaf_arm x f rows stands (leaf y) rest h =
      let same : x ≡ y = cc h in
      (λ w. f rows stands w ∙ ap (λ z. found_by rows (term_cover rows z)) same, (cc h))
  leaf_arm x f rows stands (negation u) rest h = cc h
  leaf_arm x f rows stands (both ts) rest h = cc h
  leaf_arm x f rows stands (either ts) rest h = cc h

  pub negation_arm : (more : List Node) → Suspects false words found left more → Suspects wanted words None left (Negation ∷ more)
  negation_arm more s rows stands (leaf y) rest h = cc h
  negation_arm more s rows stands (negation u) rest h =
      let at : more ≡ polish u ++ rest = cc h in
      (λ w. refl, (s rows stands u rest at).1)
  negation_arm more s rows stands (both ts) rest h = cc h
  negation_arm more s rows stands (either ts) rest h = cc h

  pub both_arm : (n : ℕ) (more : List Node) → SuspectsOfAll narrowest wanted words found n left more → Suspects wanted words found left (Both n ∷ more)
  both_arm n more s rows stands (leaf y) rest h = cc h
  both_arm n more s rows stands (negation u) rest h = cc h
  both_arm n more s rows stands (both ts) rest h =
      let c : n ≡ count ts = cc h in
      let e : more ≡ polish_all ts ++ rest = cc h in
      s rows stands ts rest c e
  both_arm n more s rows stands (either ts) rest h = cc h

  pub either_arm : (n : ℕ) (more : List Node) → SuspectsOfAll (λ _ covers. all_joined covers) wanted words found n left more → Suspects wanted words found left (Either n ∷ more)
  either_arm n more s rows stands (leaf y) rest h = cc h
  either_arm n more s rows stands (negation u) rest h = cc h
  either_arm n more s rows stands (both ts) rest h = cc h
  either_arm n more s rows stands (either ts) rest h =
      let c : n ≡ count ts = cc h in
      let e : more ≡ polish_all ts ++ rest = cc h in
      s rows stands ts rest c e

pub none_arm : (wanted : Bool) (words : Postings) (found : Option (List ℕ)) (left nodes : List Node) → length nodes ≡ 0 → Suspects wanted words found left nodes
none_arm wanted words found left nodes e rows stands t rest h = absurd (some t (omega (arith, ap length h, length-append (polish t) rest)))
  where
    some : (t : Tree) → length (polish t) ≡ 0 → ⊥
    some (leaf x) e = omega arith
    some (negation u) e = omega arith
    some (both ts) e = omega arith
    some (either ts) e = omega arith

pub whole : (words : Postings) (found : Option (List ℕ)) (left nodes : List Node) → Suspects true words found left nodes → (rows : List Row) → StandsFor words rows → (t : Tree) → nodes ≡ polish t → found ≡ found_by rows (cover rows t)
whole words found left nodes s rows stands t e = (s rows stands t [] (e ∙ sym (append-nil (polish t)))).0 refl

pub on_ok : {A E : Type 0} {P Q : A → Type 0} (r : Result A E) → ((x : A) → P x → Q x) → IfOk r P → IfOk r Q
on_ok (Ok x) f h = f x h
on_ok (Err e) f h = tt

pub nothing_found : (rows : List Row) → positions (covered rows []) ≡ []
nothing_found [] = refl
nothing_found (row ∷ rows) = nothing_found rows
