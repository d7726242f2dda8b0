-- A message of which a query holds has a term of the query's cover.
use Rattle.std.proofs.Common.{◌≡◌, ℕ, Bool, true, false, cond, nat_lt, ◌||◌, List, [], ◌∷◌, ◌++◌, map, filter, length, fold, codes, Option, Some, None, refl, sym, ap, ◌∙◌}
use Rattle.std.proofs.lemmas.Bool.{and_parts}
use Rattle.gl_fields.specs.declared.field.Field.{Field}
use Rattle.gl_indexset.specs.declared.row.Row.{Row}
use Rattle.gl_query.specs.declared.term.Term.{Term}
use Rattle.gl_query.specs.declared.term.Term.TheVariants.{All as Everything, Exists, Text, Pattern, Within}
use Rattle.gl_query.specs.Matching.{all_hold, asked, field_holds, holds, one_holds, says, term_holds}
use Rattle.gl_query.specs.Required.{has_required, lower_tokens}
use Rattle.gl_query.specs.Tree.{Tree, leaf, negation, both, either, Trees, none, also}
use Rattle.gl_covers.specs.Covers.{Terms, cover, covered, covers, has_one, is_word, joined, looked_in, narrower_known, term_cover, token_in}
use Rattle.gl_covers.proofs.Saying.{StandIn, said}

or_first : (a b : Bool) → a ≡ true → (a || b) ≡ true
or_first true b h = refl
or_first false b h = cc h

or_second : (a b : Bool) → b ≡ true → (a || b) ≡ true
or_second true b h = refl
or_second false b h = h

pub one_of_both : (one other : Terms) (fields : List Field) → has_one (one ++ other) fields ≡ (has_one one fields || has_one other fields)
one_of_both [] other fields = refl
one_of_both (term ∷ one) other fields =
    ap (λ b. has_required term fields || b) (one_of_both one other fields) ∙ assoc (has_required term fields) (has_one one fields) (has_one other fields)
  where
    assoc : (a b c : Bool) → (a || (b || c)) ≡ ((a || b) || c)
    assoc true b c = refl
    assoc false b c = refl

module _ (rows : List Row) (fields : List Field) where
  -- a cover of what holds of the message, where there is one
  abbrev IsRight : Option Terms → Type 0
  IsRight None = Unit {0}
  IsRight (Some terms) = has_one terms fields ≡ true

  right_is : (c : Option Terms) (terms : Terms) → c ≡ Some terms → IsRight c → has_one terms fields ≡ true
  right_is None terms e h = cc e
  right_is (Some other) terms e h =
      let same : other ≡ terms = cc e in
      ap (λ ts. has_one ts fields) (sym same) ∙ h

  -- of AND
  narrower_right : (a b : Option Terms) → IsRight a → IsRight b → IsRight (narrower_known rows a b)
  narrower_right None b h k = k
  narrower_right (Some one) None h k = h
  narrower_right (Some one) (Some other) h k = over (nat_lt (length (covered rows other)) (length (covered rows one)))
    where
      over : (t : Bool) → has_one (cond {A = Terms} t other one) fields ≡ true
      over true = k
      over false = h

  -- of OR, where one of them is right
  joined_first : (a b : Option Terms) → IsRight a → IsRight (joined a b)
  joined_first None b h = tt
  joined_first (Some one) None h = tt
  joined_first (Some one) (Some other) h = one_of_both one other fields ∙ or_first (has_one one fields) (has_one other fields) h

  joined_second : (a b : Option Terms) → IsRight b → IsRight (joined a b)
  joined_second None b h = tt
  joined_second (Some one) None h = tt
  joined_second (Some one) (Some other) h = one_of_both one other fields ∙ or_second (has_one one fields) (has_one other fields) h

  joined_kept : (cs : List (Option Terms)) (a : Option Terms) → IsRight a → IsRight (fold joined a cs)
  joined_kept [] a h = h
  joined_kept (c ∷ cs) a h = joined_kept cs (joined a c) (joined_first a c h)

  -- of a text: each of its tokens is there
  abbrev AreThere : List (List ℕ) → List (List ℕ) → Type 0
  AreThere names [] = Unit {0}
  AreThere names (token ∷ tokens) = (has_one (token_in names token) fields ≡ true) × AreThere names tokens

  tokens_right : (names tokens : List (List ℕ)) (a : Option Terms) → IsRight a → AreThere names tokens → IsRight (fold (narrower_known rows) a (map {B = Option Terms} (λ token. Some (token_in names token)) tokens))
  tokens_right names [] a h there = h
  tokens_right names (token ∷ tokens) a h there = tokens_right names tokens (narrower_known rows a (Some (token_in names token))) (narrower_right a (Some (token_in names token)) h there.0) there.1

  -- the tokens of one field among those of several
  some_there : (names : List (List ℕ)) (name : List ℕ) → ((token : List ℕ) → has_required (name, token) fields ≡ true → has_one (token_in names token) fields ≡ true)
      → (tokens : List (List ℕ)) → StandIn name fields tokens → AreThere names tokens
  some_there names name leads [] h = tt
  some_there names name leads (token ∷ tokens) h = (leads token h.0, some_there names name leads tokens h.1)

  text_there : (field : Option (List ℕ)) (text : List ℕ) → asked (says text) field fields ≡ true → AreThere (looked_in field) (filter is_word (lower_tokens text))
  text_there (Some name) text h =
      some_there (name ∷ []) name (λ token there. or_first (has_required (name, token) fields) false there) (filter is_word (lower_tokens text)) (said name fields text h)
  text_there None text h =
      three (field_holds (says text) (codes "message") fields) refl (field_holds (says text) (codes "full_message") fields) refl h
    where
      three : (a : Bool) → field_holds (says text) (codes "message") fields ≡ a → (b : Bool) → field_holds (says text) (codes "full_message") fields ≡ b
          → (a || (b || field_holds (says text) (codes "source") fields)) ≡ true → AreThere (looked_in None) (filter is_word (lower_tokens text))
      three true here b at h =
          some_there (looked_in None) (codes "message")
          (λ token there. or_first (has_required (codes "message", token) fields) (has_required (codes "full_message", token) fields || (has_required (codes "source", token) fields || false)) there)
          (filter is_word (lower_tokens text)) (said (codes "message") fields text here)
      three false not_here true here h =
          some_there (looked_in None) (codes "full_message")
          (λ token there. or_second (has_required (codes "message", token) fields) (has_required (codes "full_message", token) fields || (has_required (codes "source", token) fields || false))
          (or_first (has_required (codes "full_message", token) fields) (has_required (codes "source", token) fields || false) there))
          (filter is_word (lower_tokens text)) (said (codes "full_message") fields text here)
      three false not_here false at here =
          some_there (looked_in None) (codes "source")
          (λ token there. or_second (has_required (codes "message", token) fields) (has_required (codes "full_message", token) fields || (has_required (codes "source", token) fields || false))
          (or_second (has_required (codes "full_message", token) fields) (has_required (codes "source", token) fields || false) (or_first (has_required (codes "source", token) fields) false there)))
          (filter is_word (lower_tokens text)) (said (codes "source") fields text here)

  term_right : (term : Term) → term_holds term fields ≡ true → IsRight (term_cover rows term)
  term_right Everything h = tt
  term_right (Exists name) h = tt
  term_right (Text field text) h = tokens_right (looked_in field) (filter is_word (lower_tokens text)) None tt (text_there field text h)
  term_right (Pattern field pattern) h = tt
  term_right (Within name low high) h = tt

  mutual
    tree_right : (t : Tree) → holds t fields ≡ true → IsRight (cover rows t)
    tree_right (leaf term) h = term_right term h
    tree_right (negation t) h = tt
    tree_right (both ts) h = all_right ts None tt h
    tree_right (either ts) h = one_right ts (Some []) h

    all_right : (ts : Trees) (a : Option Terms) → IsRight a → all_hold ts fields ≡ true → IsRight (fold (narrower_known rows) a (covers rows ts))
    all_right none a right h = right
    all_right (also t ts) a right h =
        let parts = and_parts (holds t fields) (all_hold ts fields) h in
        all_right ts (narrower_known rows a (cover rows t)) (narrower_right a (cover rows t) right (tree_right t parts.0)) parts.1

    one_right : (ts : Trees) (a : Option Terms) → one_holds ts fields ≡ true → IsRight (fold joined a (covers rows ts))
    one_right none a h = cc h
    one_right (also t ts) a h = here_or_later (holds t fields) (tree_right t) (one_right ts (joined a (cover rows t))) h
      where
        here_or_later : (b : Bool) → (b ≡ true → IsRight (cover rows t)) → (one_holds ts fields ≡ true → IsRight (fold joined (joined a (cover rows t)) (covers rows ts)))
            → (b || one_holds ts fields) ≡ true → IsRight (fold joined (joined a (cover rows t)) (covers rows ts))
        here_or_later true here later h = joined_kept (covers rows ts) (joined a (cover rows t)) (joined_second a (cover rows t) (here refl))
        here_or_later false here later h = later h

  pub query_covered : (t : Tree) (terms : Terms) → cover rows t ≡ Some terms → holds t fields ≡ true → has_one terms fields ≡ true
  query_covered t terms is h = right_is (cover rows t) terms is (tree_right t h)
