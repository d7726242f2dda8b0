-- Texts that are a JSON number (RFC 8259, section 6), and the moment that such a number of seconds is.
use Rattle.std.specs.Prelude.{ℕ, ◌+◌, ◌*◌, ◌/◌, ◌^◌, Bool, not, ◌&&◌, List, [], ◌∷◌, ◌++◌, length, take, drop, nat_le, nat_lt, if◌then◌else◌, Option, Some, None, ℤ}
use Rattle.std.specs.List.{prefix_len}
use Rattle.gl_base.specs.Bytes.{is_digit, is_sign, next_is, behind_first}
use Rattle.gl_base.specs.Digits.{decimal, whole_of}
use Rattle.gl_json.specs.Numbers.{is_int, is_frac, is_exp}

-- the digits at the front, and what stands behind them
abbrev pub digits_of : List ℕ → List ℕ
digits_of bytes = take (prefix_len is_digit bytes) bytes

abbrev pub behind_digits : List ℕ → List ℕ
behind_digits bytes = drop (prefix_len is_digit bytes) bytes

-- The parts of a text as those of a number: minus, digits, a point with digits, and the rest.

abbrev pub is_negative : List ℕ → Bool
is_negative text = next_is 45 text

unfoldable pub unsigned : List ℕ → List ℕ
unsigned text = if next_is 45 text then behind_first text else text

abbrev pub int_of : List ℕ → List ℕ
int_of text = digits_of (unsigned text)

abbrev pub behind_int : List ℕ → List ℕ
behind_int text = behind_digits (unsigned text)

-- behind the digits: a point and the digits behind it, and what stands behind these
unfoldable pub point_at : List ℕ → List ℕ
point_at rest = if next_is 46 rest then 46 ∷ digits_of (behind_first rest) else []

unfoldable pub behind_frac : List ℕ → List ℕ
behind_frac rest = if next_is 46 rest then behind_digits (behind_first rest) else rest

abbrev pub frac_of : List ℕ → List ℕ
frac_of text = point_at (behind_int text)

abbrev pub exp_of : List ℕ → List ℕ
exp_of text = behind_frac (behind_int text)

-- the text is a number
unfoldable pub is_number : List ℕ → Bool
is_number text = is_int (int_of text) && is_frac (frac_of text) && is_exp (exp_of text)

-- the whole number in 64 bits, one of them for the sign, that a text is
abbrev pub whole_in : List ℕ → Option ℤ
whole_in text = if is_number text then whole_of text else None

-- The value of a number is, but for its sign, that of all its digits, times 10 ^ rises, divided by 10 ^ (the count of the
-- digits behind the point, and falls).

abbrev pub frac_digits : List ℕ → List ℕ
frac_digits text = behind_first (frac_of text)

abbrev pub significand : List ℕ → List ℕ → ℕ
significand int frac = decimal 0 (int ++ frac)

-- an exponent without its letter, as a number without its sign
abbrev pub exponent : List ℕ → ℕ
exponent [] = 0
exponent (b ∷ ds) = if is_sign b then decimal 0 ds else decimal 0 (b ∷ ds)

abbrev pub is_lowered : List ℕ → Bool
is_lowered exp = next_is 45 (behind_first exp)

abbrev pub rises : List ℕ → ℕ
rises exp = if is_lowered exp then 0 else exponent (behind_first exp)

abbrev pub falls : List ℕ → ℕ
falls exp = if is_lowered exp then exponent (behind_first exp) else 0

-- so many seconds in milliseconds, cut down to a whole number
abbrev pub milliseconds : List ℕ → List ℕ → List ℕ → ℕ
milliseconds int frac exp = significand int frac * 1000 * 10 ^ rises exp / 10 ^ (length frac + falls exp)

-- the moment so many seconds behind 1970, in milliseconds, up to the end of the year 9999
abbrev pub moment_in : Bool → List ℕ → List ℕ → List ℕ → Option ℕ
moment_in negative int frac exp =
    if not (negative && nat_lt 0 (significand int frac)) && nat_le (milliseconds int frac exp) 253402300799999
    then Some (milliseconds int frac exp) else None

unfoldable pub moment_of : List ℕ → Option ℕ
moment_of text = if is_number text then moment_in (is_negative text) (int_of text) (frac_digits text) (exp_of text) else None
