-- What a word with wildcards covers (this project). Texts are bytes of UTF-8.
use Rattle.std.specs.Prelude.{ℕ, ◌==◌, Bool, true, false, ◌||◌, ◌&&◌, nat_le, nat_lt, List, [], ◌∷◌, Option, Some, None}
use Rattle.std.specs.Char.{to_ascii_lowercase}
use Rattle.std.specs.List.{list_any}
use Rattle.gl_query.specs.declared.term.Piece.{Piece}
use Rattle.gl_query.specs.declared.term.Piece.TheVariants.{Byte, AnyRun, AnyOne}
use Rattle.gl_query.specs.Texts.{text_tokens, some_end}

-- a byte of a character behind its first one (RFC 3629, section 3)
abbrev pub is_continuation : ℕ → Bool
is_continuation b = nat_le 128 b && nat_lt b 192

-- ASCII letters count in lower case
abbrev pub same_byte : ℕ → ℕ → Bool
same_byte a b = to_ascii_lowercase a == to_ascii_lowercase b

abbrev pub skipped : Bool → List ℕ → List ℕ → List ℕ
skipped true here rest = rest
skipped false here rest = here

unfoldable pub rest_of_character : List ℕ → List ℕ
rest_of_character [] = []
rest_of_character (b ∷ bs) = skipped (is_continuation b) (b ∷ bs) (rest_of_character bs)

abbrev pub is_any_run : Piece → Bool
is_any_run (Byte b) = false
is_any_run AnyRun = true
is_any_run AnyOne = false

abbrev pub if_same : Bool → List ℕ → Option (List ℕ)
if_same true rest = Some rest
if_same false rest = None

-- what stands behind the byte or the character that a piece takes
abbrev pub behind : Piece → List ℕ → Option (List ℕ)
behind piece [] = None
behind (Byte c) (b ∷ bs) = if_same (same_byte c b) bs
behind AnyOne (b ∷ bs) = Some (rest_of_character bs)
behind AnyRun (b ∷ bs) = None

-- the pattern covers the whole text: a byte itself, `?` one character, `*` any run
unfoldable pub covers : List Piece → List ℕ → Bool
covers [] [] = true
covers [] (b ∷ bs) = false
covers (Byte c ∷ p) [] = false
covers (Byte c ∷ p) (b ∷ bs) = same_byte c b && covers p bs
covers (AnyOne ∷ p) [] = false
covers (AnyOne ∷ p) (b ∷ bs) = covers p (rest_of_character bs)
covers (AnyRun ∷ p) text = some_end (covers p) text

-- it covers a token of the text, or the whole
abbrev pub pattern_holds : List Piece → List ℕ → Bool
pattern_holds p text = covers p text || list_any (covers p) (text_tokens text)
