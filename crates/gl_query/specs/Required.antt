-- The required terms of a query: the pairs of a field's name and a token, in lower case, that a message must have for
-- the query to hold of it (this project). They are what AND alone joins from the outside.
use Rattle.std.specs.Prelude.{◌≡◌, ℕ, Bool, false, List, [], ◌++◌, map, Some, if◌then◌else◌}
use Rattle.std.specs.Char.{is_ascii_digit, to_ascii_lowercase}
use Rattle.std.specs.List.{list_all, list_any}
use Rattle.std.specs.Str.{bytes_eq}
use Rattle.gl_fields.specs.declared.field.Field.{Field}
use Rattle.gl_fields.specs.declared.value.Value.{Value}
use Rattle.gl_fields.specs.declared.value.Value.TheVariants.{Whole}
use Rattle.gl_fields.specs.declared.value.Value.TheVariants as value
use Rattle.gl_query.specs.declared.required.RequiredTerm.{RequiredTerm}
use Rattle.gl_query.specs.declared.term.Node.{Node}
use Rattle.gl_query.specs.declared.term.Term.{Term}
use Rattle.gl_query.specs.declared.term.Term.TheVariants.{Text}
use Rattle.gl_query.specs.Matching.{field_holds}
use Rattle.gl_query.specs.Texts.{text_tokens}
use Rattle.gl_query.specs.Tree.{Tree, leaf, negation, both, either, Trees, none, also, polish}

-- the tokens of a text, with ASCII letters in lower case
abbrev pub lower_tokens : List ℕ → List (List ℕ)
lower_tokens text = map (map to_ascii_lowercase) (text_tokens text)

-- digits alone
abbrev pub is_number : List ℕ → Bool
is_number token = list_all is_ascii_digit token

-- each token with the field's name. None is required where one of them is a number, since a Whole may be what was asked for.
abbrev pub in_field : List ℕ → List (List ℕ) → List (List ℕ × List ℕ)
in_field name tokens = if list_any is_number tokens then [] else map {B = List ℕ × List ℕ} (λ token. (name, token)) tokens

-- of a word or a phrase that names its field
abbrev pub term_required : Term → List (List ℕ × List ℕ)
term_required (Text (Some name) text) = in_field name (lower_tokens text)
term_required _ = []

abbrev mutual
  pub required : Tree → List (List ℕ × List ℕ)
  required (leaf term) = term_required term
  required (negation t) = []
  required (both ts) = all_required ts
  required (either ts) = []

  pub all_required : Trees → List (List ℕ × List ℕ)
  all_required none = []
  all_required (also t ts) = required t ++ all_required ts

-- a Text among whose tokens, in lower case, is this one
abbrev pub has_token : List ℕ → Value → Bool
has_token token (value.Text held) = list_any (bytes_eq token) (lower_tokens held)
has_token token (Whole number) = false

-- the message has the required term: in the field of that name stands such a Text
abbrev pub has_required : List ℕ × List ℕ → List Field → Bool
has_required term fields = field_holds (has_token term.1) term.0 fields

-- the pairs that kept terms are
abbrev pub terms_of : List RequiredTerm → List (List ℕ × List ℕ)
terms_of terms = map {B = List ℕ × List ℕ} (λ term. (term.field, term.token)) terms

-- kept terms are those of the tree that has these nodes
abbrev pub AreRequired : List RequiredTerm → List Node → Type 0
AreRequired terms nodes = (t : Tree) → nodes ≡ polish t → terms_of terms ≡ required t

-- what stands behind the terms before: those of the tree at the front of these nodes, where they are wanted
abbrev pub Gathers : Bool → (before after : List (List ℕ × List ℕ)) → (left nodes : List Node) → Type 0
Gathers wanted before after left nodes = (t : Tree) (rest : List Node) → nodes ≡ polish t ++ rest → (after ≡ before ++ (if wanted then required t else [])) × (left ≡ rest)
