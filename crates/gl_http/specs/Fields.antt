-- What the fields of a head say. A field is its name and its value without the white space around it.
use Rattle.std.specs.Prelude.{ℕ, Bool, ◌&&◌, ◌||◌, not, nat_lt, nat_le, List, [], ◌∷◌, length, take, drop, codes, Option, Some, None, if◌then◌else◌, bytes_eq}
use Rattle.std.specs.List.{list_all}
use Rattle.std.specs.Int.{is_in_range}
use Rattle.std.specs.Str.{str_eq_ignore_ascii_case}
use Rattle.std.specs.Char.{is_ascii_digit}
use Rattle.gl_base.specs.Digits.{decimal}

abbrev pub Fields : Type 0
Fields = List (List ℕ × List ℕ)

-- the value of the first field of this name, in any case of letters (RFC 9110, section 5.1)
abbrev pub first_value : List ℕ → Fields → Option (List ℕ)
first_value name [] = None
first_value name (f ∷ fs) = if str_eq_ignore_ascii_case f.0 name then Some f.1 else first_value name fs

-- 1 to 18 digits
abbrev pub is_length : List ℕ → Bool
is_length text = nat_lt 0 (length text) && nat_le (length text) 18 && list_all is_ascii_digit text

-- if the field has this name, its value is this text
abbrev pub is_alike : List ℕ → List ℕ → List ℕ × List ℕ → Bool
is_alike name text f = not (str_eq_ignore_ascii_case f.0 name) || bytes_eq f.1 text

abbrev pub lengths_by : Fields → Option (List ℕ) → Option (Option ℕ)
lengths_by fields None = Some None
lengths_by fields (Some text) =
    if is_length text && list_all (is_alike (codes "Content-Length") text) fields then Some (Some (decimal 0 text)) else None

-- the body's length, if one is stated; `None` where a Content-Length isn't 1 to 18 digits, or two differ in their text (RFC 9112, section 6.3)
abbrev pub stated_length : Fields → Option (Option ℕ)
stated_length fields = lengths_by fields (first_value (codes "Content-Length") fields)

abbrev pub is_printable : ℕ → Bool
is_printable b = is_in_range 32 126 b

-- what follows `Bearer` in any case of letters and one space: 1 to 128 characters from space to `~`
abbrev pub token_in : Option (List ℕ) → Option (List ℕ)
token_in None = None
token_in (Some value) =
    if nat_lt 7 (length value) && nat_le (length value) 135 && str_eq_ignore_ascii_case (take 7 value) (codes "Bearer ") && list_all is_printable (drop 7 value)
    then Some (drop 7 value) else None

-- the token of the first Authorization (RFC 6750, section 2.1)
abbrev pub token_of : Fields → Option (List ℕ)
token_of fields = token_in (first_value (codes "Authorization") fields)
