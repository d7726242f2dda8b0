-- The number that decimal digits write.
use Rattle.std.specs.Prelude.{ℕ, ◌+◌, ◌-◌, ◌*◌, ◌^◌, ◌==◌, Bool, true, false, ◌&&◌, nat_le, nat_lt, List, [], ◌∷◌, Option, Some, None, ℤ, pos, neg_ℤ, if◌then◌else◌}
use Rattle.gl_base.specs.Bytes.{is_digit}

-- the number that these digits, as bytes of ASCII, write behind a number that was read before
abbrev pub decimal : ℕ → List ℕ → ℕ
decimal n [] = n
decimal n (d ∷ ds) = decimal (n * 10 + (d - 48)) ds

-- a number up to this bound
abbrev pub within : ℕ → ℕ → Option ℕ
within most n = if nat_le n most then Some n else None

-- the number that these digits write behind n, where none on the way passes the bound; other bytes write none
unfoldable pub digits_within : ℕ → ℕ → List ℕ → Option ℕ
digits_within most n [] = Some n
digits_within most n (d ∷ ds) = if is_digit d && nat_le (n * 10 + (d - 48)) most then digits_within most (n * 10 + (d - 48)) ds else None

-- up to 2 ^ 63, as a number of 64 bits may have it behind its sign
abbrev pub magnitude_from : ℕ → List ℕ → Option ℕ
magnitude_from n ds = digits_within (2 ^ 63) n ds

abbrev pub signed_number : (negative : Bool) → Option ℕ → Option ℤ
signed_number negative None = None
signed_number true (Some n) = Some (neg_ℤ (pos n))
signed_number false (Some n) = if nat_lt n (2 ^ 63) then Some (pos n) else None

-- the whole number that a literal without fraction and exponent is, in 64 bits, one of them for the sign
unfoldable pub whole_of : List ℕ → Option ℤ
whole_of [] = None
whole_of (b ∷ ds) = if b == 45 then signed_number true (magnitude_from 0 ds) else signed_number false (magnitude_from 0 (b ∷ ds))
