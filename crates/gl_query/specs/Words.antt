-- What a word and a phrase of a query say (this project).
use Rattle.std.specs.Prelude.{ℕ, ◌==◌, Bool, true, false, not, ◌&&◌, List, [], ◌∷◌, ◌++◌, length, drop, slice_index, nat_lt, ℤ, Option, Some, None, if◌then◌else◌, codes}
use Rattle.std.specs.List.{list_any}
use Rattle.std.specs.Str.{bytes_eq}
use Rattle.gl_base.specs.Digits.{magnitude_from, signed_number}
use Rattle.gl_query.specs.declared.token.Comparison.{Comparison}
use Rattle.gl_query.specs.declared.token.Comparison.TheVariants.{Above, AtLeast, Below, AtMost}
use Rattle.gl_query.specs.declared.token.Edge.{Edge}
use Rattle.gl_query.specs.declared.token.Edge.TheVariants.{Including, Excluding}
use Rattle.gl_query.specs.declared.term.Piece.{Piece}
use Rattle.gl_query.specs.declared.term.Piece.TheVariants.{Byte, AnyRun, AnyOne}
use Rattle.gl_query.specs.declared.term.Limit.{Limit}
use Rattle.gl_query.specs.declared.term.Limit.TheVariants.{Unbounded, Included, Excluded}
use Rattle.gl_query.specs.declared.term.Term.{Term}
use Rattle.gl_query.specs.declared.term.Term.TheVariants.{All, Text, Pattern, Within}

-- a word or a phrase without the backslashes that take a byte as it is
unfoldable pub plain : (escaped : Bool) → List ℕ → List ℕ
plain escaped [] = []
plain escaped (b ∷ bs) = (if not escaped && b == 92 then [] else b ∷ []) ++ plain (not escaped && b == 92) bs

abbrev pub piece_of : (escaped : Bool) → ℕ → Piece
piece_of escaped b = if escaped then Byte b else (if b == 42 then AnyRun else (if b == 63 then AnyOne else Byte b))

-- a word with `*` and `?` as wildcards, where no backslash stands before them
unfoldable pub pieces : (escaped : Bool) → List ℕ → List Piece
pieces escaped [] = []
pieces escaped (b ∷ bs) = (if not escaped && b == 92 then [] else piece_of escaped b ∷ []) ++ pieces (not escaped && b == 92) bs

abbrev pub is_wildcard : Piece → Bool
is_wildcard (Byte b) = false
is_wildcard AnyRun = true
is_wildcard AnyOne = true

-- `*` as it stands
abbrev pub is_any_run : List ℕ → Bool
is_any_run word = bytes_eq word (codes "*")

abbrev pub wildcard_term : Option (List ℕ) → List ℕ → Term
wildcard_term (Some name) word = Pattern (Some name) (pieces false word)
wildcard_term None word = if is_any_run word then All else Pattern None (pieces false word)

-- what a word asks of a field, or of the three that are tried without one
abbrev pub word_term : Option (List ℕ) → List ℕ → Term
word_term field word = if list_any is_wildcard (pieces false word) then wildcard_term field word else Text field (plain false word)

-- the number that a word is: decimal digits, with `-` before them where it is negative, in 64 bits
abbrev pub number_of : List ℕ → Option ℤ
number_of word =
    if slice_index word 0 == 45 then (if nat_lt (length word) 2 then None else signed_number true (magnitude_from 0 (drop 1 word)))
    else (if length word == 0 then None else signed_number false (magnitude_from 0 word))

abbrev pub some_bound : Option ℤ → Option (Option ℤ)
some_bound None = None
some_bound (Some n) = Some (Some n)

-- the end of a range that a word is: `*`, or a number
abbrev pub bound_of : List ℕ → Option (Option ℤ)
bound_of word = if is_any_run word then Some None else some_bound (number_of word)

abbrev pub limit_of : Edge → Option ℤ → Limit
limit_of edge None = Unbounded
limit_of Including (Some n) = Included n
limit_of Excluding (Some n) = Excluded n

-- a comparison is a range that is open at one side
abbrev pub comparison_term : List ℕ → Comparison → ℤ → Term
comparison_term name Above n = Within name (Excluded n) Unbounded
comparison_term name AtLeast n = Within name (Included n) Unbounded
comparison_term name Below n = Within name Unbounded (Excluded n)
comparison_term name AtMost n = Within name Unbounded (Included n)
