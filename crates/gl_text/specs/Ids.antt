-- The text of a stream's id: its number as 24 lower-case hexadecimal digits (this project).
use Rattle.std.specs.Prelude.{ℕ, ◌-◌, ◌^◌, Bool, ◌&&◌, ◌||◌, ◌==◌, nat_lt, false, List, ◌++◌, length, replicate, Option, Some, None, if◌then◌else◌}
use Rattle.std.specs.Fmt.{digits}
use Rattle.std.specs.Int.{is_in_range}
use Rattle.std.specs.List.{list_all}
use Rattle.std.specs.Str.Parse.{digits_value}

abbrev pub id_text : ℕ → List ℕ
id_text id = replicate (24 - length (digits 16 false id)) 48 ++ digits 16 false id

-- `0` to `9`, `a` to `f`
abbrev pub is_hex_digit : ℕ → Bool
is_hex_digit b = is_in_range 48 57 b || is_in_range 97 102 b

-- 24 digits, of a number of 64 bits
abbrev pub is_id : List ℕ → Bool
is_id text = length text == 24 && list_all is_hex_digit text && nat_lt (digits_value 16 text) (2 ^ 64)

-- the id of which this is the text
abbrev pub read_id : List ℕ → Option ℕ
read_id text = if is_id text then Some (digits_value 16 text) else None
