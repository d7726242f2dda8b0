-- Terms of which each message has one of which a query holds (this project). They serve a query that requires no term: a word
-- or phrase without a field, and OR.
use Rattle.std.specs.Prelude.{ℕ, Bool, not, nat_lt, List, [], ◌∷◌, ◌++◌, length, map, filter, if◌then◌else◌, Option, Some, None, codes}
use Rattle.std.specs.List.{fold, list_any}
use Rattle.gl_fields.specs.declared.field.Field.{Field}
use Rattle.gl_indexset.specs.declared.row.Row.{Row}
use Rattle.gl_query.specs.declared.term.Term.{Term}
use Rattle.gl_query.specs.declared.term.Term.TheVariants.{Text}
use Rattle.gl_query.specs.Required.{has_required, is_number, lower_tokens}
use Rattle.gl_query.specs.Tree.{Tree, leaf, negation, both, either, Trees, none, also}

-- tokens, each with a field's name
abbrev pub Terms : Type 0
Terms = List (List ℕ × List ℕ)

-- a message has one of these terms
abbrev pub has_one : Terms → List Field → Bool
has_one terms fields = list_any (λ term. has_required term fields) terms

-- the rows that have one of these terms
abbrev pub covered : List Row → Terms → List Row
covered rows terms = filter (λ row. has_one terms row.fields) rows

-- the fields in which a text is looked for
abbrev pub looked_in : Option (List ℕ) → List (List ℕ)
looked_in (Some name) = name ∷ []
looked_in None = codes "message" ∷ codes "full_message" ∷ codes "source" ∷ []

-- a token in each of these fields
abbrev pub token_in : List (List ℕ) → List ℕ → Terms
token_in names token = map {B = List ℕ × List ℕ} (λ name. (name, token)) names

-- of two covers the one that fewer rows have, and the first where as many have either
abbrev pub narrower : List Row → Terms → Terms → Terms
narrower rows one other = if nat_lt (length (covered rows other)) (length (covered rows one)) then other else one

-- the narrower where there are both, and else the one that there is
abbrev pub narrower_known : List Row → Option Terms → Option Terms → Option Terms
narrower_known rows None other = other
narrower_known rows (Some one) None = Some one
narrower_known rows (Some one) (Some other) = Some (narrower rows one other)

-- both together, where there are both
abbrev pub joined : Option Terms → Option Terms → Option Terms
joined None other = None
joined (Some one) None = None
joined (Some one) (Some other) = Some (one ++ other)

-- the narrowest of those that there are
abbrev pub narrowest : List Row → List (Option Terms) → Option Terms
narrowest rows covers = fold (narrower_known rows) None covers

-- all together, where there are all
abbrev pub all_joined : List (Option Terms) → Option Terms
all_joined covers = fold joined (Some []) covers

-- a token that isn't digits alone; no index has those, since a Whole may be what was asked for
abbrev pub is_word : List ℕ → Bool
is_word token = not (is_number token)

-- the rarest of a text's words, wherever they are looked for
abbrev pub text_cover : List Row → List (List ℕ) → List (List ℕ) → Option Terms
text_cover rows names tokens = narrowest rows (map {B = Option Terms} (λ token. Some (token_in names token)) (filter is_word tokens))

abbrev pub term_cover : List Row → Term → Option Terms
term_cover rows (Text field text) = text_cover rows (looked_in field) (lower_tokens text)
term_cover rows _ = None

abbrev mutual
  -- the cover of a query that the fewest of the rows have, as far as AND leaves a choice; `None` where words tell nothing of it
  pub cover : List Row → Tree → Option Terms
  cover rows (leaf term) = term_cover rows term
  cover rows (negation t) = None
  cover rows (both ts) = narrowest rows (covers rows ts)
  cover rows (either ts) = all_joined (covers rows ts)

  pub covers : List Row → Trees → List (Option Terms)
  covers rows none = []
  covers rows (also t ts) = cover rows t ∷ covers rows ts
