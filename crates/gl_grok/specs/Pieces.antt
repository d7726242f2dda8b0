-- The pieces of a text: bytes that stand as they are, and references `%{NAME}` and `%{NAME:field}`.
use Rattle.std.specs.Prelude.{ℕ, zero, suc, Bool, ◌&&◌, ◌||◌, List, [], ◌∷◌, length, nat_lt, ◌==◌, if◌then◌else◌, Option, Some, None}
use Rattle.std.specs.Char.{is_ascii_alphanumeric}
use Rattle.std.specs.List.{list_all, position_or_len, before_first, after_first}
use Rattle.gl_fields.specs.Fields.{is_field_name}

-- a byte, or a reference to the pattern of a name, which may give what it matches to a field
pub data Piece : Type 0 where
  byte : ℕ → Piece
  reference : List ℕ → Option (List ℕ) → Piece

-- what stands before the first such byte and behind it
abbrev pub split : ℕ → List ℕ → Option (List ℕ × List ℕ)
split c text =
    if nat_lt (position_or_len (λ b. b == c) text) (length text) then Some (before_first (λ b. b == c) text, after_first (λ b. b == c) text) else None

abbrev pub is_name_byte : ℕ → Bool
is_name_byte b = is_ascii_alphanumeric b || b == 95

-- 1 to 64 letters, digits and `_`
abbrev pub is_pattern_name : List ℕ → Bool
is_pattern_name name = nat_lt 0 (length name) && nat_lt (length name) 65 && list_all is_name_byte name

-- NAME, or NAME and a field behind a colon
abbrev pub named : List ℕ → Option (List ℕ × List ℕ) → Option Piece
named text None = if is_pattern_name text then Some (reference text None) else None
named text (Some (name, field)) =
    if is_pattern_name name && is_field_name field then Some (reference name (Some field)) else None

-- the reference that stands between `%{` and `}`
abbrev pub reference_in : List ℕ → Option Piece
reference_in text = named text (split 58 text)

abbrev pub before_rest : Option Piece → List ℕ → Option (Piece × List ℕ)
before_rest None rest = None
before_rest (Some piece) rest = Some (piece, rest)

-- where a `}` follows
abbrev pub closed : Option (List ℕ × List ℕ) → Option (Piece × List ℕ)
closed None = None
closed (Some (text, rest)) = before_rest (reference_in text) rest

-- the reference that a `%` before this text begins, and the text behind it
abbrev pub behind_percent : List ℕ → Option (Piece × List ℕ)
behind_percent [] = None
behind_percent (b ∷ text) = if b == 123 then closed (split 125 text) else None

-- the reference that this byte begins, and the text behind it
abbrev pub reference_at : ℕ → List ℕ → Option (Piece × List ℕ)
reference_at b text = if b == 37 then behind_percent text else None

-- that reference or else the byte, and the pieces of what stands behind
abbrev pub first_piece : (List ℕ → List Piece) → ℕ → List ℕ → Option (Piece × List ℕ) → List Piece
first_piece others b text None = byte b ∷ others text
first_piece others b text (Some (piece, rest)) = piece ∷ others rest

-- the pieces of a text, if they are no more than so many
abbrev pub pieces_within : ℕ → List ℕ → List Piece
pieces_within zero text = []
pieces_within (suc n) [] = []
pieces_within (suc n) (b ∷ text) = first_piece (pieces_within n) b text (reference_at b text)

-- the pieces of a text, from the left: a reference where one begins, and else a byte
abbrev pub pieces : List ℕ → List Piece
pieces text = pieces_within (length text) text

abbrev pub names_of : List Piece → List (List ℕ)
names_of [] = []
names_of (byte b ∷ others) = names_of others
names_of (reference name field ∷ others) = name ∷ names_of others

-- the names that a text refers to, from the left
abbrev pub names_in : List ℕ → List (List ℕ)
names_in text = names_of (pieces text)
