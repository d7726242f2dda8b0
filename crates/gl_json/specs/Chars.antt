-- The characters of a string (RFC 8259, section 7), whose bytes are UTF-8 (RFC 3629, section 4).
use Rattle.std.specs.Prelude.{◌≡◌, ℕ, Bool, true, not, ◌&&◌, ◌||◌, List, [], ◌∷◌, ◌==◌, if◌then◌else◌}
use Rattle.std.specs.List.{flat_map, list_all}
use Rattle.std.specs.Int.{is_in_range}
use Rattle.gl_json.specs.declared.chars.Char.{Char}
use Rattle.gl_json.specs.declared.chars.Char.TheVariants.{One, Two, Three, Four, Escape, Unicode}

-- the bytes of a character as it is written
abbrev pub char_bytes : Char → List ℕ
char_bytes (One a) = a ∷ []
char_bytes (Two a b) = a ∷ b ∷ []
char_bytes (Three a b c) = a ∷ b ∷ c ∷ []
char_bytes (Four a b c d) = a ∷ b ∷ c ∷ d ∷ []
char_bytes (Escape b) = 92 ∷ b ∷ []
char_bytes (Unicode a b c d) = 92 ∷ 117 ∷ a ∷ b ∷ c ∷ d ∷ []

abbrev pub is_tail : ℕ → Bool
is_tail b = is_in_range 128 191 b

-- behind E0 and F0 the second byte begins later, so that no character has a longer form, and behind ED and F4 it
-- ends earlier, so that none is a surrogate or past 10FFFF
abbrev pub is_second : ℕ → ℕ → Bool
is_second first b =
    if first == 224 then is_in_range 160 191 b
    else (if first == 237 then is_in_range 128 159 b
    else (if first == 240 then is_in_range 144 191 b
    else (if first == 244 then is_in_range 128 143 b else is_tail b)))

-- one byte as it stands: neither a control character nor a quote nor a backslash
abbrev pub is_plain : ℕ → Bool
is_plain a = is_in_range 32 127 a && not (a == 34) && not (a == 92)

-- what stands behind a backslash: " \ / b f n r t
abbrev pub is_escape : ℕ → Bool
is_escape b = (b == 34) || (b == 92) || (b == 47) || (b == 98) || (b == 102) || (b == 110) || (b == 114) || (b == 116)

abbrev pub is_hex : ℕ → Bool
is_hex b = is_in_range 48 57 b || is_in_range 65 70 b || is_in_range 97 102 b

abbrev pub is_char : Char → Bool
is_char (One a) = is_plain a
is_char (Two a b) = is_in_range 194 223 a && is_tail b
is_char (Three a b c) = is_in_range 224 239 a && is_second a b && is_tail c
is_char (Four a b c d) = is_in_range 240 244 a && is_second a b && is_tail c && is_tail d
is_char (Escape b) = is_escape b
is_char (Unicode a b c d) = is_hex a && is_hex b && is_hex c && is_hex d

abbrev pub AreChars : List Char → Type 0
AreChars cs = list_all is_char cs ≡ true

-- what stands between the quotes of a string
abbrev pub inside : List Char → List ℕ
inside cs = flat_map char_bytes cs
