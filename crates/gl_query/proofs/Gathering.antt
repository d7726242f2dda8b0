-- The required terms of a tree in Polish notation.
use Rattle.std.proofs.Common.{◌≡◌, ℕ, ◌+◌, ◌<◌, ◌≤◌, Bool, true, false, cond, ◌||◌, ◌&&◌, List, [], ◌∷◌, ◌++◌, length, map, refl, sym, ap, ◌∙◌, arith, append_assoc, length-append}
use Rattle.std.proofs.lemmas.Bool.Decides.{nat_tests}
use Rattle.std.proofs.lemmas.List.{append-nil}
use Rattle.std.specs.Char.{is_ascii_digit, to_ascii_lowercase}
use Rattle.std.specs.List.{list_any}
use Rattle.gl_query.specs.declared.required.RequiredTerm.{RequiredTerm}
use Rattle.gl_query.specs.declared.term.Term.{Term}
use Rattle.gl_query.specs.declared.term.Node.{Node}
use Rattle.gl_query.specs.declared.term.Node.TheVariants.{Leaf, Negation, Both, Either}
use Rattle.gl_query.specs.Required.{lower_tokens, is_number, term_required, required, all_required, terms_of, Gathers}
use Rattle.gl_query.specs.Texts.{text_tokens, TokenAhead}
use Rattle.gl_query.specs.Tree.{Tree, leaf, negation, both, either, Trees, none, also, count, polish, polish_all}

-- digits in lower case are the same digits
lower_digit : (d : ℕ) → is_ascii_digit (to_ascii_lowercase d) ≡ is_ascii_digit d
lower_digit d = grind (arith, nat_tests)

pub lower_number : (token : List ℕ) → is_number (map to_ascii_lowercase token) ≡ is_number token
lower_number [] = refl
lower_number (d ∷ ds) =
    ap (λ (b : Bool). b && is_number (map to_ascii_lowercase ds)) (lower_digit d) ∙ ap (λ (b : Bool). is_ascii_digit d && b) (lower_number ds)

-- the tokens of a text, one after another
module _ (text token rest : List ℕ) (ahead : TokenAhead text token rest) where
  tokens_are : lower_tokens text ≡ map to_ascii_lowercase token ∷ lower_tokens rest
  tokens_are = ap (λ (ts : List (List ℕ)). map {B = List ℕ} (λ (t : List ℕ). map to_ascii_lowercase t) ts) ahead.tokens

  pub number_here : is_number token ≡ true → list_any is_number (lower_tokens text) ≡ true
  number_here h = ap (λ ts. list_any is_number ts) tokens_are ∙ ap (λ b. b || list_any is_number (lower_tokens rest)) (lower_number token ∙ h)

  pub number_later : is_number token ≡ false → list_any is_number (lower_tokens text) ≡ list_any is_number (lower_tokens rest)
  number_later h = ap (λ ts. list_any is_number ts) tokens_are ∙ ap (λ b. b || list_any is_number (lower_tokens rest)) (lower_number token ∙ h)

  pub pushed_more : (name : List ℕ) (before after next : List (List ℕ × List ℕ)) (term : List ℕ × List ℕ) → term ≡ (name, map to_ascii_lowercase token) → next ≡ after ++ term ∷ []
      → after ++ map {B = List ℕ × List ℕ} (λ t. (name, t)) (lower_tokens text) ≡ before → next ++ map {B = List ℕ × List ℕ} (λ t. (name, t)) (lower_tokens rest) ≡ before
  pushed_more name before after next term is e h =
      ap (λ l. l ++ map {B = List ℕ × List ℕ} (λ t. (name, t)) (lower_tokens rest)) e
      ∙ append_assoc after (term ∷ []) (map {B = List ℕ × List ℕ} (λ t. (name, t)) (lower_tokens rest))
      ∙ ap (λ x. after ++ x ∷ map {B = List ℕ × List ℕ} (λ t. (name, t)) (lower_tokens rest)) is
      ∙ sym (ap (λ ts. after ++ map {B = List ℕ × List ℕ} (λ t. (name, t)) ts) tokens_are)
      ∙ h

pub no_more : (text : List ℕ) → text_tokens text ≡ [] → lower_tokens text ≡ []
no_more text gone = ap (λ (ts : List (List ℕ)). map {B = List ℕ} (λ (t : List ℕ). map to_ascii_lowercase t) ts) gone

pub pushed_over : (text : List ℕ) (name : List ℕ) (after all : List (List ℕ × List ℕ)) → text_tokens text ≡ [] → after ++ map {B = List ℕ × List ℕ} (λ t. (name, t)) (lower_tokens text) ≡ all → after ≡ all
pushed_over text name after all gone h = sym (append-nil after) ∙ ap (λ ts. after ++ map {B = List ℕ × List ℕ} (λ t. (name, t)) ts) (sym (no_more text gone)) ∙ h

pub terms_pushed : (terms : List RequiredTerm) (term : RequiredTerm) → terms_of (terms ++ term ∷ []) ≡ terms_of terms ++ (term.field, term.token) ∷ []
terms_pushed [] term = refl
terms_pushed (first ∷ terms) term = ap (λ l. (first.field, first.token) ∷ l) (terms_pushed terms term)

abbrev pub wanted_of : Bool → List (List ℕ × List ℕ) → List (List ℕ × List ℕ)
wanted_of wanted terms = cond wanted terms []

never : (wanted : Bool) (terms : List (List ℕ × List ℕ)) → wanted_of wanted [] ≡ []
never true terms = refl
never false terms = refl

-- the members so far, and those that are left
pub record GatheredSoFar (ts : Trees) (rest left : List Node) (wanted : Bool) (before after : List (List ℕ × List ℕ)) (done n : ℕ) : Type 0 where
  pub us : Trees
  pub at : left ≡ polish_all us ++ rest
  pub counted : count us + done ≡ n
  pub gathered : after ++ wanted_of wanted (all_required us) ≡ before ++ wanted_of wanted (all_required ts)

module _ (ts : Trees) (rest left : List Node) (wanted : Bool) (before after : List (List ℕ × List ℕ)) (done n : ℕ) where
  pub members_more : (next : List (List ℕ × List ℕ)) (behind : List Node) → done < n → Gathers wanted after next behind left
      → GatheredSoFar ts rest left wanted before after done n → GatheredSoFar ts rest behind wanted before next (done + 1) n
  members_more next behind lt g v = go v.us v.at v.counted v.gathered
    where
      split : (w : Bool) (u : Tree) (us : Trees) → wanted_of w (required u ++ all_required us) ≡ wanted_of w (required u) ++ wanted_of w (all_required us)
      split true u us = refl
      split false u us = refl

      go : (us : Trees) → left ≡ polish_all us ++ rest → count us + done ≡ n → after ++ wanted_of wanted (all_required us) ≡ before ++ wanted_of wanted (all_required ts)
          → GatheredSoFar ts rest behind wanted before next (done + 1) n
      go none at counted h = absurd (omega (arith, counted))
      go (also u us) at counted h =
          let r = g u (polish_all us ++ rest) (at ∙ append_assoc (polish u) (polish_all us) rest) in
          record {
            us = us;
            at = r.1;
            counted = omega (arith, counted);
            gathered =
                ap (λ l. l ++ wanted_of wanted (all_required us)) r.0
                ∙ append_assoc after (wanted_of wanted (required u)) (wanted_of wanted (all_required us))
                ∙ ap (λ l. after ++ l) (sym (split wanted u us))
                ∙ h;
          }

  pub members_done : n ≤ done → GatheredSoFar ts rest left wanted before after done n → (after ≡ before ++ wanted_of wanted (all_required ts)) × (left ≡ rest)
  members_done le v = go v.us v.at v.counted v.gathered
    where
      go : (us : Trees) → left ≡ polish_all us ++ rest → count us + done ≡ n → after ++ wanted_of wanted (all_required us) ≡ before ++ wanted_of wanted (all_required ts)
          → (after ≡ before ++ wanted_of wanted (all_required ts)) × (left ≡ rest)
      go none at counted h = (sym (append-nil after) ∙ ap (λ l. after ++ l) (sym (never wanted [])) ∙ h, at)
      go (also u us) at counted h = absurd (omega (arith, counted))

module _ (wanted : Bool) (before after : List (List ℕ × List ℕ)) (left : List Node) where
  pub leaf_arm : (x : Term) → after ≡ before ++ wanted_of wanted (term_required x) → Gathers wanted before after left (Leaf x ∷ left)
  leaf_arm x e (leaf y) rest h =
      let same : x ≡ y = cc h in
      (e ∙ ap (λ z. before ++ wanted_of wanted (term_required z)) same, (cc h))
  leaf_arm x e (negation u) rest h = cc h
  leaf_arm x e (both ts) rest h = cc h
  leaf_arm x e (either ts) rest h = cc h

  pub negation_arm : (more : List Node) → Gathers false before after left more → Gathers wanted before after left (Negation ∷ more)
  negation_arm more g (leaf y) rest h = cc h
  negation_arm more g (negation u) rest h =
      let at : more ≡ polish u ++ rest = cc h in
      let r = g u rest at in
      (r.0 ∙ ap (λ l. before ++ l) (sym (never wanted [])), r.1)
  negation_arm more g (both ts) rest h = cc h
  negation_arm more g (either ts) rest h = cc h

  abbrev GathersMembers : Bool → ℕ → List Node → Type 0
  GathersMembers w n more = (ts : Trees) (rest : List Node) → n ≡ count ts → more ≡ polish_all ts ++ rest
      → (after ≡ before ++ wanted_of w (all_required ts)) × (left ≡ rest)

  pub both_arm : (n : ℕ) (more : List Node) → GathersMembers wanted n more → Gathers wanted before after left (Both n ∷ more)
  both_arm n more g (leaf y) rest h = cc h
  both_arm n more g (negation u) rest h = cc h
  both_arm n more g (both ts) rest h =
      let c : n ≡ count ts = cc h in
      let e : more ≡ polish_all ts ++ rest = cc h in
      g ts rest c e
  both_arm n more g (either ts) rest h = cc h

  pub either_arm : (n : ℕ) (more : List Node) → GathersMembers false n more → Gathers wanted before after left (Either n ∷ more)
  either_arm n more g (leaf y) rest h = cc h
  either_arm n more g (negation u) rest h = cc h
  either_arm n more g (both ts) rest h = cc h
  either_arm n more g (either ts) rest h =
      let c : n ≡ count ts = cc h in
      let e : more ≡ polish_all ts ++ rest = cc h in
      let r = g ts rest c e in
      (r.0 ∙ ap (λ l. before ++ l) (sym (never wanted [])), r.1)

pub none_arm : (wanted : Bool) (before after : List (List ℕ × List ℕ)) (left nodes : List Node) → length nodes ≡ 0 → Gathers wanted before after left nodes
none_arm wanted before after left nodes e t rest h = absurd (some t (omega (arith, ap length h, length-append (polish t) rest)))
  where
    some : (t : Tree) → length (polish t) ≡ 0 → ⊥
    some (leaf x) e = omega arith
    some (negation u) e = omega arith
    some (both ts) e = omega arith
    some (either ts) e = omega arith

pub whole : (before after : List (List ℕ × List ℕ)) (left nodes : List Node) → before ≡ [] → Gathers true before after left nodes → (t : Tree) → nodes ≡ polish t → after ≡ required t
whole before after left nodes b g t e = (g t [] (e ∙ sym (append-nil (polish t)))).0 ∙ ap (λ l. l ++ required t) b
