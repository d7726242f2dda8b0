-- The whole number that a text writes (this project).
use Rattle.std.specs.Prelude.{ℕ, Bool, ◌&&◌, ◌==◌, nat_lt, nat_le, List, length, drop, slice_index, ℤ, pos, neg_ℤ, if◌then◌else◌, Option, Some, None}
use Rattle.std.specs.Str.{all_ascii_digits}
use Rattle.gl_base.specs.Digits.{decimal}

-- one digit or more, and nothing else
abbrev pub is_digits : List ℕ → Bool
is_digits text = nat_lt 0 (length text) && all_ascii_digits text

-- a `-`, and digits behind it
abbrev pub is_signed_digits : List ℕ → Bool
is_signed_digits text = slice_index text 0 == 45 && is_digits (drop 1 text)

-- The whole number that a text of digits writes, with or without `-` before them, within 64 bits, one of them for the
-- sign: from -9223372036854775808 to 9223372036854775807.
unfoldable pub whole_number : List ℕ → Option ℤ
whole_number text =
    if is_digits text then (if nat_lt (decimal 0 text) 9223372036854775808 then Some (pos (decimal 0 text)) else None)
    else (if is_signed_digits text then
    (if nat_le (decimal 0 (drop 1 text)) 9223372036854775808 then Some (neg_ℤ (pos (decimal 0 (drop 1 text)))) else None)
    else None)
