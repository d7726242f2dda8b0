-- The tokens of a whole text.
use Rattle.std.specs.Prelude.{◌≡◌, ℕ, zero, suc, ◌+◌, List, [], ◌∷◌, length, drop, Result, Ok, Err}
use Rattle.std.specs.Global.{Vec}
use Rattle.gl_rulelang.specs.declared.token.Placed.{Placed}
use Rattle.gl_rulelang.specs.declared.refusal.TextRefusal.{TextRefusal}
use Rattle.gl_rulelang.specs.Tokens.{Lexeme, Tokens, end, token, tokens_from}
use Rattle.gl_rulelang.specs.Faults.{Fault, bad_token, Fails}
use Rattle.gl_rulelang.specs.Fronts.{Front, blank, lexeme, bad, front_of}

abbrev pub with_token : Lexeme → ℕ → Result Tokens Fault → Result Tokens Fault
with_token l at (Ok ts) = Ok (token l at ts)
with_token l at (Err e) = Err e

-- what stands at the front of a text that begins at this place, and then what the rest gives
abbrev pub cut_front : Front → (ℕ → List ℕ → Result Tokens Fault) → ℕ → List ℕ → Result Tokens Fault
cut_front (blank n) next at text = next (at + n) (drop n text)
cut_front (lexeme l n) next at text = with_token l at (next (at + n) (drop n text))
cut_front bad next at text = Err (bad_token at)

-- the tokens of a text that begins at this place; the first number bounds the turns, and the count of the bytes is always enough
unfoldable pub cutting : ℕ → ℕ → List ℕ → Result Tokens Fault
cutting n at [] = Ok (end at)
cutting zero at (b ∷ text) = Err (bad_token at)
cutting (suc n) at (b ∷ text) = cut_front (front_of (b ∷ text)) (cutting n) at (b ∷ text)

-- the tokens of a text, or the place of the first token or comment that doesn't read
abbrev pub tokens_of : List ℕ → Result Tokens Fault
tokens_of text = cutting (length text) 0 text

-- What a call returned are these tokens, unless memory ran out.
abbrev pub Cuts : ℕ → Result (Vec Placed) TextRefusal → Result Tokens Fault → Type 0
Cuts len (Ok placed) read = read ≡ Ok (tokens_from len placed.items)
Cuts len (Err e) read = Fails e read
