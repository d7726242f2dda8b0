-- What the characters of a string say (RFC 8259, section 7): `\u` spells a code unit of UTF-16, and a surrogate that
-- doesn't stand in a pair says U+FFFD (this project).
use Rattle.std.specs.Prelude.{◌≡◌, ℕ, ◌+◌, ◌-◌, ◌*◌, Bool, List, [], ◌∷◌, ◌++◌, Option, Some, None, Result, Ok, Err, ◌==◌, if◌then◌else◌, length, zero, suc}
use Rattle.std.specs.Int.{is_in_range}
use Rattle.std.specs.Char.{encode_utf8}
use Rattle.gl_json.specs.declared.bytes.Stop.{Stop}
use Rattle.gl_json.specs.declared.bytes.Stop.TheVariants.{At}
use Rattle.gl_json.specs.declared.chars.Char.{Char}
use Rattle.gl_json.specs.declared.chars.Char.TheVariants.{One, Two, Three, Four, Escape, Unicode}
use Rattle.gl_json.specs.declared.refusal.JsonRefusal.{JsonRefusal}
use Rattle.gl_json.specs.Chars.{AreChars, inside}
use Rattle.gl_json.specs.JsonReading.{◌>>=◌, char_at}
use Rattle.gl_json.specs.Places.{refused}

-- what a backslash and this byte say
abbrev pub meaning : ℕ → ℕ
meaning b = if b == 98 then 8 else (if b == 102 then 12 else (if b == 110 then 10 else (if b == 114 then 13 else (if b == 116 then 9 else b))))

abbrev pub hex_value : ℕ → ℕ
hex_value b = if is_in_range 48 57 b then b - 48 else (if is_in_range 65 70 b then b - 55 else (if is_in_range 97 102 b then b - 87 else 0))

abbrev pub code_unit : ℕ → ℕ → ℕ → ℕ → ℕ
code_unit a b c d = hex_value a * 4096 + hex_value b * 256 + hex_value c * 16 + hex_value d

abbrev pub is_high : ℕ → Bool
is_high u = is_in_range 55296 56319 u

abbrev pub is_low : ℕ → Bool
is_low u = is_in_range 56320 57343 u

-- U+FFFD
abbrev pub replacement : List ℕ
replacement = 239 ∷ 191 ∷ 189 ∷ []

-- a high surrogate that waited in vain
abbrev pub lone : Option ℕ → List ℕ
lone None = []
lone (Some high) = replacement

abbrev pub scalar_text : ℕ → List ℕ
scalar_text u = if is_in_range 55296 57343 u then replacement else encode_utf8 u

abbrev pub surrogate_pair : ℕ → ℕ → ℕ
surrogate_pair high low = 65536 + (high - 55296) * 1024 + (low - 56320)

-- a code unit behind a high surrogate that waits for its pair, or behind none
abbrev pub unit_alone : ℕ → List ℕ
unit_alone u = if is_high u then [] else scalar_text u

abbrev pub unit_text : Option ℕ → ℕ → List ℕ
unit_text None u = unit_alone u
unit_text (Some high) u = if is_low u then scalar_text (surrogate_pair high u) else replacement ++ unit_alone u

unfoldable pub char_text : Option ℕ → Char → List ℕ
char_text waiting (One a) = lone waiting ++ a ∷ []
char_text waiting (Two a b) = lone waiting ++ a ∷ b ∷ []
char_text waiting (Three a b c) = lone waiting ++ a ∷ b ∷ c ∷ []
char_text waiting (Four a b c d) = lone waiting ++ a ∷ b ∷ c ∷ d ∷ []
char_text waiting (Escape b) = lone waiting ++ meaning b ∷ []
char_text waiting (Unicode a b c d) = unit_text waiting (code_unit a b c d)

-- the high surrogate that waits then
unfoldable pub waits : Char → Option ℕ
waits (Unicode a b c d) = if is_high (code_unit a b c d) then Some (code_unit a b c d) else None
waits _ = None

-- what characters say
unfoldable pub decoded_behind : Option ℕ → List Char → List ℕ
decoded_behind waiting [] = lone waiting
decoded_behind waiting (c ∷ cs) = char_text waiting c ++ decoded_behind (waits c) cs

abbrev pub decoded : List Char → List ℕ
decoded cs = decoded_behind None cs

-- these bytes stand between the quotes of a string, and say this text
pub record Says (raw text : List ℕ) : Type 0 where
  pub cs : List Char
  pub are : AreChars cs
  pub written : raw ≡ inside cs
  pub said : text ≡ decoded cs

-- the characters that bytes are, or the first byte that no case takes; the number bounds them, and the count of the
-- bytes is always enough
unfoldable pub chars_of : ℕ → List ℕ → Result (List Char) Stop
chars_of n [] = Ok []
chars_of zero (b ∷ bytes) = Err (At (length (b ∷ bytes)))
chars_of (suc n) (b ∷ bytes) = do
  c ← char_at (b ∷ bytes)
  cs ← chars_of n c.1
  Ok (c.0 ∷ cs)

abbrev pub said_by : Option ℕ → Result (List Char) Stop → Result (List ℕ) Stop
said_by waiting (Ok cs) = Ok (decoded_behind waiting cs)
said_by waiting (Err stop) = Err stop

-- what the inside of a string says, or the place at which the bytes stop to be one
unfoldable pub text_of : List ℕ → Result (List ℕ) JsonRefusal
text_of raw = refused raw (said_by None (chars_of (length raw) raw))

-- what a string says; what isn't the inside of a string says nothing
abbrev pub text_or_nothing : Result (List ℕ) JsonRefusal → List ℕ
text_or_nothing (Ok text) = text
text_or_nothing (Err refusal) = []

abbrev pub said : List ℕ → List ℕ
said raw = text_or_nothing (text_of raw)
