-- Whether a query holds of a message's fields (this project).
use Rattle.std.specs.Prelude.{ℕ, Bool, true, false, not, ◌||◌, ◌&&◌, ℤ, int_le, int_lt, List, Option, Some, None, is_some, codes}
use Rattle.std.specs.Fmt.{signed_decimal}
use Rattle.std.specs.Str.{bytes_eq}
use Rattle.gl_fields.specs.declared.field.Field.{Field}
use Rattle.gl_fields.specs.declared.value.Value.{Value}
use Rattle.gl_fields.specs.declared.value.Value.TheVariants.{Whole}
use Rattle.gl_fields.specs.declared.value.Value.TheVariants as value
use Rattle.gl_fields.specs.Fields.{value_of}
use Rattle.gl_query.specs.declared.term.Piece.{Piece}
use Rattle.gl_query.specs.declared.term.Limit.{Limit}
use Rattle.gl_query.specs.declared.term.Limit.TheVariants.{Unbounded, Included, Excluded}
use Rattle.gl_query.specs.declared.term.Term.{Term}
use Rattle.gl_query.specs.declared.term.Term.TheVariants.{All, Exists, Text, Pattern, Within}
use Rattle.gl_query.specs.Texts.{stands}
use Rattle.gl_query.specs.Patterns.{pattern_holds}
use Rattle.gl_query.specs.Tree.{Tree, leaf, negation, both, either, Trees, none, also}

-- the tokens of a text stand among those of the value, or it is the number's decimal
abbrev pub says : List ℕ → Value → Bool
says text (value.Text held) = stands text held
says text (Whole number) = bytes_eq (signed_decimal number) text

-- a pattern covers a token of the value's text, or the whole
abbrev pub fits : List Piece → Value → Bool
fits pattern (value.Text held) = pattern_holds pattern held
fits pattern (Whole number) = pattern_holds pattern (signed_decimal number)

abbrev pub is_above : Limit → ℤ → Bool
is_above Unbounded number = true
is_above (Included limit) number = int_le limit number
is_above (Excluded limit) number = int_lt limit number

abbrev pub is_below : Limit → ℤ → Bool
is_below Unbounded number = true
is_below (Included limit) number = int_le number limit
is_below (Excluded limit) number = int_lt number limit

-- a number, and no text, is between limits
abbrev pub is_within : Limit → Limit → Value → Bool
is_within low high (value.Text held) = false
is_within low high (Whole number) = is_above low number && is_below high number

abbrev pub holds_of : (Value → Bool) → Option Value → Bool
holds_of test None = false
holds_of test (Some held) = test held

-- the field of this name passes; one that isn't there doesn't
abbrev pub field_holds : (Value → Bool) → List ℕ → List Field → Bool
field_holds test name fields = holds_of test (value_of name fields)

-- the field that is named, or else one of three
abbrev pub asked : (Value → Bool) → Option (List ℕ) → List Field → Bool
asked test (Some name) fields = field_holds test name fields
asked test None fields =
    field_holds test (codes "message") fields || (field_holds test (codes "full_message") fields || field_holds test (codes "source") fields)

abbrev pub term_holds : Term → List Field → Bool
term_holds All fields = true
term_holds (Exists name) fields = is_some (value_of name fields)
term_holds (Text field text) fields = asked (says text) field fields
term_holds (Pattern field pattern) fields = asked (fits pattern) field fields
term_holds (Within name low high) fields = field_holds (is_within low high) name fields

abbrev mutual
  pub holds : Tree → List Field → Bool
  holds (leaf term) fields = term_holds term fields
  holds (negation t) fields = not (holds t fields)
  holds (both ts) fields = all_hold ts fields
  holds (either ts) fields = one_holds ts fields

  pub all_hold : Trees → List Field → Bool
  all_hold none fields = true
  all_hold (also t ts) fields = holds t fields && all_hold ts fields

  pub one_holds : Trees → List Field → Bool
  one_holds none fields = false
  one_holds (also t ts) fields = holds t fields || one_holds ts fields
