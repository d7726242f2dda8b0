-- What stands at the front of a text: white space, a comment, or the longest token.
use Rattle.std.specs.Prelude.{ℕ, ◌+◌, ◌^◌, ◌<◌, ◌≤◌, length, Bool, false, pos, List, [], ◌∷◌, take, Option, Some, None, nat_lt, ◌==◌, if◌then◌else◌, codes}
use Rattle.std.specs.List.{prefix_len, starts_with}
use Rattle.std.specs.Str.{bytes_eq, IsCharBoundary}
use Rattle.gl_rulelang.specs.declared.rule.Binary.TheVariants as ops
use Rattle.gl_rulelang.specs.declared.token.Sign.TheVariants as signs
use Rattle.gl_rulelang.specs.declared.text.Class.TheVariants as classes
use Rattle.gl_rulelang.specs.declared.front.Front.{Front as CodeFront}
use Rattle.gl_rulelang.specs.declared.front.Front.TheVariants as code
use Rattle.std.specs.Char.{is_ascii_digit}
use Rattle.gl_base.specs.Digits.{decimal}
use Rattle.gl_rulelang.specs.Bytes.{in_class, is_letter, is_blank, string_len, comment_len}
use Rattle.gl_rulelang.specs.Tokens.{Lexeme, name, string, number, operator, sign, token_view, unescaped}

pub data Front : Type 0 where
  -- so many bytes of white space or of a comment
  blank : ℕ → Front
  -- a token, and how many bytes it has
  lexeme : Lexeme → ℕ → Front
  -- nothing that reads
  bad : Front

-- a place within a text, between two characters
pub record EndsAt (text : List ℕ) (n : ℕ) : Type 0 where
  pub some : 0 < n
  pub within : n ≤ length text
  pub boundary : IsCharBoundary text n

-- where the front of a text ends
abbrev pub Ends : List ℕ → Front → Type 0
Ends text (blank n) = EndsAt text n
Ends text (lexeme l n) = EndsAt text n
Ends text bad = Unit {0}

abbrev pub front_view : CodeFront → Front
front_view (code.Blank n) = blank n
front_view (code.Token t n) = lexeme (token_view t) n
front_view code.Bad = bad

-- a keyword, a word for a sign, or a name
abbrev pub word : List ℕ → Lexeme
word w =
    if bytes_eq w (codes "rule") then sign signs.Rule
    else if bytes_eq w (codes "when") then sign signs.When
    else if bytes_eq w (codes "then") then sign signs.Then
    else if bytes_eq w (codes "end") then sign signs.End
    else if bytes_eq w (codes "let") then sign signs.Let
    else if bytes_eq w (codes "pipeline") then sign signs.Pipeline
    else if bytes_eq w (codes "stage") then sign signs.Stage
    else if bytes_eq w (codes "match") then sign signs.Match
    else if bytes_eq w (codes "all") then sign signs.All
    else if bytes_eq w (codes "either") then sign signs.Either
    else if bytes_eq w (codes "pass") then sign signs.Pass
    else if bytes_eq w (codes "true") then sign signs.True
    else if bytes_eq w (codes "false") then sign signs.False
    else if bytes_eq w (codes "not") then sign signs.Not
    else if bytes_eq w (codes "and") then operator ops.And
    else if bytes_eq w (codes "or") then operator ops.Or
    else name w

abbrev pub word_front : List ℕ → Front
word_front text = lexeme (word (take (prefix_len (in_class classes.Name) text) text)) (prefix_len (in_class classes.Name) text)

-- digits of a number below 2 ^ 63, with how many they are
abbrev pub numeral : List ℕ → ℕ → Front
numeral digits n = if nat_lt (decimal 0 digits) (2 ^ 63) then lexeme (number (pos (decimal 0 digits))) n else bad

abbrev pub numeral_front : List ℕ → Front
numeral_front text = numeral (take (prefix_len (in_class classes.Digit) text) text) (prefix_len (in_class classes.Digit) text)

-- behind a quote: a string of so many bytes and the quote that ends it
abbrev pub string_front : Option ℕ → List ℕ → Front
string_front None text = bad
string_front (Some n) text = lexeme (string (unescaped (take n text))) (n + 2)

-- behind `/*`
abbrev pub comment_front : Option ℕ → Front
comment_front None = bad
comment_front (Some n) = blank (n + 2)

-- behind `/`: a comment to the line's end, one up to `*/`, or the sign
abbrev pub slash : List ℕ → Front
slash [] = lexeme (operator ops.Divide) 1
slash (b ∷ text) =
    if b == 47 then blank (prefix_len (in_class classes.Line) text + 2)
    else if b == 42 then comment_front (comment_len false text)
    else lexeme (operator ops.Divide) 1

abbrev pub next_is : ℕ → List ℕ → Bool
next_is b [] = false
next_is b (c ∷ text) = c == b

abbrev pub single : Option Lexeme → Front
single None = bad
single (Some l) = lexeme l 1

-- a sign of two bytes where this second one follows, else one of one byte, where there is one
abbrev pub pair : ℕ → Lexeme → Option Lexeme → List ℕ → Front
pair second two one text = if next_is second text then lexeme two 2 else single one

abbrev pub message_front : List ℕ → Front
message_front text = if starts_with ◌==◌ text (codes "message") then lexeme (sign signs.Message) 8 else bad

-- signs, by their first byte
abbrev pub punctuation : ℕ → List ℕ → Front
punctuation b text =
    if b == 40 then lexeme (sign signs.Open) 1
    else if b == 41 then lexeme (sign signs.Close) 1
    else if b == 44 then lexeme (sign signs.Comma) 1
    else if b == 59 then lexeme (sign signs.Semicolon) 1
    else if b == 58 then lexeme (sign signs.Colon) 1
    else if b == 46 then lexeme (sign signs.Dot) 1
    else if b == 43 then lexeme (operator ops.Plus) 1
    else if b == 45 then lexeme (operator ops.Minus) 1
    else if b == 42 then lexeme (operator ops.Times) 1
    else if b == 37 then lexeme (operator ops.Remainder) 1
    else if b == 61 then pair 61 (operator ops.Equal) (Some (sign signs.Assign)) text
    else if b == 33 then pair 61 (operator ops.NotEqual) (Some (sign signs.Not)) text
    else if b == 60 then pair 61 (operator ops.AtMost) (Some (operator ops.Less)) text
    else if b == 62 then pair 61 (operator ops.AtLeast) (Some (operator ops.Greater)) text
    else if b == 38 then pair 38 (operator ops.And) None text
    else if b == 124 then pair 124 (operator ops.Or) None text
    else if b == 36 then message_front text
    else bad

unfoldable pub front_of : List ℕ → Front
front_of [] = bad
front_of (b ∷ text) =
    if is_blank b then blank 1
    else if is_letter b then word_front (b ∷ text)
    else if is_ascii_digit b then numeral_front (b ∷ text)
    else if b == 34 then string_front (string_len false text) text
    else if b == 47 then slash text
    else punctuation b text
