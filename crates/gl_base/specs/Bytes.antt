-- What a byte of a number is, and what stands at the front of bytes.
use Rattle.std.specs.Prelude.{ℕ, Bool, false, ◌||◌, ◌==◌, List, [], ◌∷◌}
use Rattle.std.specs.Int.{is_in_range}

abbrev pub is_digit : ℕ → Bool
is_digit b = is_in_range 48 57 b

-- plus and minus
abbrev pub is_sign : ℕ → Bool
is_sign b = (b == 43) || (b == 45)

-- the letter of an exponent
abbrev pub is_e : ℕ → Bool
is_e b = (b == 101) || (b == 69)

abbrev pub next_is : ℕ → List ℕ → Bool
next_is sign [] = false
next_is sign (b ∷ bytes) = b == sign

abbrev pub behind_first : List ℕ → List ℕ
behind_first [] = []
behind_first (b ∷ bytes) = bytes
