-- The rarest of the terms that a query requires.
use Rattle.std.proofs.Common.{◌≡◌, ℕ, ◌+◌, ◌<◌, Bool, true, false, cond, nat_lt, ◌&&◌, ◌||◌, List, [], ◌∷◌, ◌++◌, map, filter, fold, length, get_or, take, drop, ◌≤◌, ◌-◌, Bor, MatchOption, Option, Some, None, option_map, refl, sym, ap, ◌∙◌, subst, arith}
use Rattle.std.proofs.lemmas.List.{length-map, take_all}
use Rattle.std.specs.Char.{to_ascii_lowercase}
use Rattle.std.specs.List.{list_any, reduce}
use Rattle.std.proofs.lemmas.Bool.{or_parts}
use Rattle.std.proofs.lemmas.Bool.Decides.{nat_tests}
use Rattle.gl_indexset.specs.declared.row.Row.{Row}
use Rattle.gl_query.specs.Required.{all_required, in_field, is_number, lower_tokens, required, term_required, terms_of}
use Rattle.gl_query.specs.declared.required.RequiredTerm.{RequiredTerm}
use Rattle.gl_query.specs.declared.term.Term.{Term}
use Rattle.gl_query.specs.declared.term.Term.TheVariants.{All, Exists, Text, Pattern, Within}
use Rattle.gl_query.specs.Texts.{text_tokens}
use Rattle.gl_query.specs.Tree.{Tree, leaf, negation, both, either, Trees, none, also}
use Rattle.gl_words.specs.Candidates.{candidates_of, holders, positions, rarer, rarest}
use Rattle.gl_words.specs.Texts.{shorter}
use Rattle.gl_words.proofs.Standing.{IsOf}
use Rattle.gl_words.proofs.Finding.{lower}
use Rattle.gl_words.proofs.Walking.{Keeps}

-- ---- what a query requires is in lower case, and no number
abbrev IsPlain : List ℕ × List ℕ → Type 0
IsPlain term = (lower term.1 ≡ term.1) × (is_number term.1 ≡ false)

abbrev ArePlain : List (List ℕ × List ℕ) → Type 0
ArePlain [] = Unit {0}
ArePlain (term ∷ terms) = IsPlain term × ArePlain terms

lower_byte : (b : ℕ) → to_ascii_lowercase (to_ascii_lowercase b) ≡ to_ascii_lowercase b
lower_byte b = grind (arith, nat_tests)

lower_twice : (token : List ℕ) → lower (lower token) ≡ lower token
lower_twice [] = refl
lower_twice (b ∷ bs) = ap (λ (c : ℕ). c ∷ lower (lower bs)) (lower_byte b) ∙ ap (λ (l : List ℕ). to_ascii_lowercase b ∷ l) (lower_twice bs)

plain_append : (one other : List (List ℕ × List ℕ)) → ArePlain one → ArePlain other → ArePlain (one ++ other)
plain_append [] other h k = k
plain_append (term ∷ one) other h k = (h.0, plain_append one other h.1 k)

plain_tokens : (name : List ℕ) (tokens : List (List ℕ)) → list_any is_number (map {B = List ℕ} lower tokens) ≡ false
    → ArePlain (map {B = List ℕ × List ℕ} (λ token. (name, token)) (map {B = List ℕ} lower tokens))
plain_tokens name [] h = tt
plain_tokens name (token ∷ tokens) h =
    let parts = or_parts (is_number (lower token)) (list_any is_number (map {B = List ℕ} lower tokens)) h in
    ((lower_twice token, parts.0), plain_tokens name tokens parts.1)

plain_field : (name : List ℕ) (text : List ℕ) → ArePlain (in_field name (lower_tokens text))
plain_field name text = over (list_any is_number (lower_tokens text)) refl
  where
    over : (b : Bool) → list_any is_number (lower_tokens text) ≡ b → ArePlain (cond b [] (map {B = List ℕ × List ℕ} (λ token. (name, token)) (lower_tokens text)))
    over true is = tt
    over false is = plain_tokens name (text_tokens text) is

plain_term : (term : Term) → ArePlain (term_required term)
plain_term All = tt
plain_term (Exists name) = tt
plain_term (Text None text) = tt
plain_term (Text (Some name) text) = plain_field name text
plain_term (Pattern field pattern) = tt
plain_term (Within name low high) = tt

mutual
  plain_tree : (t : Tree) → ArePlain (required t)
  plain_tree (leaf term) = plain_term term
  plain_tree (negation t) = tt
  plain_tree (both ts) = plain_trees ts
  plain_tree (either ts) = tt

  plain_trees : (ts : Trees) → ArePlain (all_required ts)
  plain_trees none = tt
  plain_trees (also t ts) = plain_append (required t) (all_required ts) (plain_tree t) (plain_trees ts)

-- ---- the shortest list of positions is that of the rarest term
module _ (rows : List Row) where
  abbrev held : List ℕ × List ℕ → List ℕ
  held term = positions (holders rows term)

  shorter_is : (one other : List ℕ × List ℕ) → shorter (held one) (held other) ≡ held (rarer rows one other)
  shorter_is one other =
      ap (λ n. cond (nat_lt n (length (held one))) (held other) (held one)) (length-map (holders rows other) (λ (r : Row). r.position))
      ∙ ap (λ n. cond (nat_lt (length (holders rows other)) n) (held other) (held one)) (length-map (holders rows one) (λ (r : Row). r.position))
      ∙ over (nat_lt (length (holders rows other)) (length (holders rows one)))
    where
      over : (b : Bool) → cond b (held other) (held one) ≡ held (cond {A = List ℕ × List ℕ} b other one)
      over true = refl
      over false = refl

  fold_is : (term : List ℕ × List ℕ) (terms : List (List ℕ × List ℕ)) → fold shorter (held term) (map held terms) ≡ held (fold (rarer rows) term terms)
  fold_is term [] = refl
  fold_is term (next ∷ terms) = ap (λ l. fold shorter l (map held terms)) (shorter_is term next) ∙ fold_is (rarer rows term next) terms

  reduce_is : (terms : List (List ℕ × List ℕ)) → reduce shorter (map held terms) ≡ option_map held (reduce (rarer rows) terms)
  reduce_is [] = refl
  reduce_is (term ∷ terms) = ap Some (fold_is term terms)

  kept_terms : (kept : Keeps) → IsOf kept rows → (terms : List (List ℕ × List ℕ)) → ArePlain terms
      → map (λ (term : List ℕ × List ℕ). kept term.0 (lower term.1)) terms ≡ map held terms
  kept_terms kept h [] plain = refl
  kept_terms kept h (term ∷ terms) plain =
      let here : kept term.0 (lower term.1) ≡ held term = ap (kept term.0) plain.0.0 ∙ h.terms term.0 term.1 plain.0.1 in
      ap (λ (l : List ℕ). l ∷ map (λ (term : List ℕ × List ℕ). kept term.0 (lower term.1)) terms) here
      ∙ ap (λ (ls : List (List ℕ)). held term ∷ ls) (kept_terms kept h terms plain.1)

  pub chosen : (kept : Keeps) → IsOf kept rows → (t : Tree) → reduce shorter (map (λ (term : List ℕ × List ℕ). kept term.0 (lower term.1)) (required t)) ≡ candidates_of t rows
  unfolding candidates_of
  chosen kept h t = ap (reduce shorter) (kept_terms kept h (required t) (plain_tree t)) ∙ reduce_is (required t)

-- ---- one term after another
-- the least so far against what is left
abbrev pub least_from : Option (List ℕ) → List (List ℕ) → Option (List ℕ)
least_from None found = reduce shorter found
least_from (Some least) found = Some (fold shorter least found)

abbrev pub found_of : Keeps → List RequiredTerm → List (List ℕ)
found_of kept terms = map (λ (term : List ℕ × List ℕ). kept term.0 (lower term.1)) (terms_of terms)

least_step : (least : Option (Bor (List ℕ))) (next found : List ℕ) (more : List (List ℕ)) → MatchOption least (next ≡ found) (λ (one : Bor (List ℕ)). next ≡ shorter one.now found)
    → least_from (Some next) more ≡ least_from (option_map (λ (one : Bor (List ℕ)). one.now) least) (found ∷ more)
least_step None next found more h = ap (λ (l : List ℕ). Some (fold shorter l more)) h
least_step (Some one) next found more h = ap (λ (l : List ℕ). Some (fold shorter l more)) h

pub least_more : (kept : Keeps) (left : List RequiredTerm) (term : RequiredTerm) (least : Option (Bor (List ℕ))) (next found : List ℕ) → 0 < length left → term ≡ get_or left 0 term
    → found ≡ kept term.field (lower term.token) → MatchOption least (next ≡ found) (λ (one : Bor (List ℕ)). next ≡ shorter one.now found)
    → least_from (Some next) (found_of kept (take (length left - 1) (drop 1 left))) ≡ least_from (option_map (λ (one : Bor (List ℕ)). one.now) least) (found_of kept left)
least_more kept [] term least next found some is at h = absurd (omega arith)
least_more kept (x ∷ xs) term least next found some is at h =
    let len : length (x ∷ xs) - 1 ≡ length xs = omega arith in
    let rest : take (length (x ∷ xs) - 1) xs ≡ xs = ap (λ k. take k xs) len ∙ take_all (length xs) xs (omega arith) in
    let here : found ≡ kept x.field (lower x.token) = at ∙ ap (λ (t : RequiredTerm). kept t.field (lower t.token)) is in
    ap (λ (ts : List RequiredTerm). least_from (Some next) (found_of kept ts)) rest
    ∙ least_step least next found (found_of kept xs) h
    ∙ ap (λ (l : List ℕ). least_from (option_map (λ (one : Bor (List ℕ)). one.now) least) (l ∷ found_of kept xs)) here

pub least_over : (kept : Keeps) (left : List RequiredTerm) (least : Option (Bor (List ℕ))) → length left ≤ 0
    → least_from (option_map (λ (one : Bor (List ℕ)). one.now) least) (found_of kept left) ≡ option_map (λ (one : Bor (List ℕ)). one.now) least
least_over kept [] None few = refl
least_over kept [] (Some one) few = refl
least_over kept (x ∷ xs) least few = absurd (omega arith)
