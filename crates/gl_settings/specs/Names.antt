-- Which names things may have (this project), and what a token's hash is written as.
use Rattle.std.specs.Prelude.{ℕ, Bool, false, not, ◌&&◌, ◌||◌, ◌==◌, List, [], ◌∷◌, length, nat_lt}
use Rattle.std.specs.Int.{is_in_range}
use Rattle.std.specs.List.{list_all}
use Rattle.gl_fields.specs.Fields.{is_name_byte}

-- the name of an input, an index set, a lookup table or a user: 1 to 64 letters, digits, `_`, `.` and `-`
abbrev pub is_short_name : List ℕ → Bool
is_short_name name = nat_lt 0 (length name) && nat_lt (length name) 65 && list_all is_name_byte name

-- a control character begins here (U+0000 to U+001F, U+007F to U+009F), in UTF-8
abbrev pub begins_control : List ℕ → Bool
begins_control [] = false
begins_control (b ∷ []) = nat_lt b 32 || b == 127
begins_control (b ∷ c ∷ bytes) = nat_lt b 32 || b == 127 || (b == 194 && nat_lt c 160)

abbrev pub has_control : List ℕ → Bool
has_control [] = false
has_control (b ∷ bytes) = begins_control (b ∷ bytes) || has_control bytes

-- the name of a stream, a rule or a pipeline: 1 to 128 bytes, none of a control character
abbrev pub is_title : List ℕ → Bool
is_title name = nat_lt 0 (length name) && nat_lt (length name) 129 && not (has_control name)

-- `0` to `9` and `a` to `f`
abbrev pub is_hex_digit : ℕ → Bool
is_hex_digit b = is_in_range 48 57 b || is_in_range 97 102 b

-- a SHA-256 as 64 lower-case hexadecimal digits
abbrev pub is_hash : List ℕ → Bool
is_hash text = length text == 64 && list_all is_hex_digit text
