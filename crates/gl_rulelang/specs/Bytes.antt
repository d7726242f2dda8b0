-- The bytes of a text: letters, white space, strings and comments. Letters are ASCII.
use Rattle.std.specs.Prelude.{ℕ, suc, Bool, true, false, not, ◌&&◌, ◌||◌, List, [], ◌∷◌, Option, Some, None, option_map, ◌==◌, if◌then◌else◌}
use Rattle.std.specs.Char.{is_ascii_digit}
use Rattle.std.specs.Int.{is_in_range}
use Rattle.gl_rulelang.specs.declared.text.Class.{Class}
use Rattle.gl_rulelang.specs.declared.text.Class.TheVariants as classes

abbrev pub is_letter : ℕ → Bool
is_letter b = is_in_range 65 90 b || is_in_range 97 122 b || (b == 95)

abbrev pub is_name_byte : ℕ → Bool
is_name_byte b = is_letter b || is_ascii_digit b

-- space, tab, carriage return and line feed
abbrev pub is_blank : ℕ → Bool
is_blank b = (b == 32) || (b == 9) || (b == 13) || (b == 10)

-- kinds of bytes that stand in a row
abbrev pub in_class : Class → ℕ → Bool
in_class classes.Name b = is_name_byte b
in_class classes.Digit b = is_ascii_digit b
in_class classes.Plain b = not (b == 92)
in_class classes.Line b = not (b == 10)
in_class classes.Bare b = not (b == 34) && not (b == 92) && not (b == 10) && not (b == 13) && not (b == 9)

-- what may stand behind a backslash: `"`, `\`, `n`, `r`, `t`
abbrev pub is_escape : ℕ → Bool
is_escape b = (b == 34) || (b == 92) || (b == 110) || (b == 114) || (b == 116)

-- how many bytes of a string stand before the quote that ends it; is_escaped: behind a backslash
abbrev pub string_len : Bool → List ℕ → Option ℕ
string_len is_escaped [] = None
string_len true (b ∷ bytes) = if is_escape b then option_map suc (string_len false bytes) else None
string_len false (b ∷ bytes) = if b == 34 then Some 0 else option_map suc (string_len (b == 92) bytes)

-- how many bytes of a comment stand behind its `/*`, with its end `*/`; behind_star: a `*` stands before these bytes
abbrev pub comment_len : Bool → List ℕ → Option ℕ
comment_len behind_star [] = None
comment_len behind_star (b ∷ bytes) = if behind_star && (b == 47) then Some 1 else option_map suc (comment_len (b == 42) bytes)
