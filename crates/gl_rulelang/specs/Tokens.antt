-- The tokens of a text.
use Rattle.std.specs.Prelude.{ℕ, ℤ, Bool, true, false, List, [], ◌∷◌, Option, Some, None, ◌==◌, if◌then◌else◌}
use Rattle.gl_rulelang.specs.declared.rule.Binary.{Binary}
use Rattle.gl_rulelang.specs.declared.token.Sign.{Sign}
use Rattle.gl_rulelang.specs.declared.token.Sign.TheVariants as signs
use Rattle.gl_rulelang.specs.declared.token.Token.{Token}
use Rattle.gl_rulelang.specs.declared.token.Token.TheVariants as tokens
use Rattle.gl_rulelang.specs.declared.token.Placed.{Placed}
use Rattle.gl_rulelang.specs.declared.token.Cursor.{Cursor}

pub data Lexeme : Type 0 where
  name : List ℕ → Lexeme
  string : List ℕ → Lexeme
  number : ℤ → Lexeme
  operator : Binary → Lexeme
  sign : Sign → Lexeme

-- the tokens, each with its place in bytes, and behind them the length of the text
pub data Tokens : Type 0 where
  end : ℕ → Tokens
  token : Lexeme → ℕ → Tokens → Tokens

-- the byte that a letter behind a backslash stands for: `n` line feed, `r` carriage return, `t` tab, else itself
abbrev pub escaped : ℕ → ℕ
escaped b = if b == 110 then 10 else if b == 114 then 13 else if b == 116 then 9 else b

-- what a string spells between its quotes; is_escape: a backslash stands before these bytes
abbrev pub unescape : Bool → List ℕ → List ℕ
unescape is_escape [] = []
unescape true (b ∷ bytes) = escaped b ∷ unescape false bytes
unescape false (b ∷ bytes) = if b == 92 then unescape true bytes else b ∷ unescape false bytes

abbrev pub unescaped : List ℕ → List ℕ
unescaped bytes = unescape false bytes

abbrev pub token_view : Token → Lexeme
token_view (tokens.Name s) = name s.now
token_view (tokens.String s) = string (unescaped s.now)
token_view (tokens.Number n) = number n
token_view (tokens.Operator op) = operator op
token_view (tokens.Sign s) = sign s

abbrev pub tokens_from : ℕ → List Placed → Tokens
tokens_from length [] = end length
tokens_from length (p ∷ ps) = token (token_view p.token) p.at (tokens_from length ps)

abbrev pub left : Cursor → Tokens
left c = tokens_from c.end c.tokens.now

abbrev pub first : Tokens → Option Lexeme
first (end at) = None
first (token l at ts) = Some l

abbrev pub rest : Tokens → Tokens
rest (end at) = end at
rest (token l at ts) = ts

-- where the next token begins, or the length of the text
abbrev pub place : Tokens → ℕ
place (end at) = at
place (token l at ts) = at

abbrev pub sign_number : Sign → ℕ
sign_number signs.Rule = 0
sign_number signs.When = 1
sign_number signs.Then = 2
sign_number signs.End = 3
sign_number signs.Let = 4
sign_number signs.Pipeline = 5
sign_number signs.Stage = 6
sign_number signs.Match = 7
sign_number signs.All = 8
sign_number signs.Either = 9
sign_number signs.Pass = 10
sign_number signs.True = 11
sign_number signs.False = 12
sign_number signs.Not = 13
sign_number signs.Open = 14
sign_number signs.Close = 15
sign_number signs.Comma = 16
sign_number signs.Semicolon = 17
sign_number signs.Colon = 18
sign_number signs.Dot = 19
sign_number signs.Assign = 20
sign_number signs.Message = 21

abbrev pub same_sign : Sign → Sign → Bool
same_sign a b = sign_number a == sign_number b

abbrev pub is_sign : Sign → Option Lexeme → Bool
is_sign s None = false
is_sign s (Some (sign found)) = same_sign found s
is_sign s (Some _) = false
