-- The tokens of a field's text, and what stands among them (this project).
use Rattle.std.specs.Prelude.{◌≡◌, ◌<◌, ℕ, ◌==◌, Bool, true, false, ◌||◌, ◌&&◌, nat_le, List, [], ◌∷◌, length, filter, map}
use Rattle.std.specs.Char.{to_ascii_lowercase}
use Rattle.std.specs.Int.{is_in_range}
use Rattle.std.specs.Str.{bytes_eq}

-- an ASCII letter, a digit, `_`, or a byte of a character past ASCII
abbrev pub is_token_byte : ℕ → Bool
is_token_byte b = is_in_range 48 57 b || is_in_range 65 90 b || is_in_range 97 122 b || b == 95 || nat_le 128 b

-- a byte goes to the front of the run behind it, if it is of a token, and else it ends that run
abbrev pub put : Bool → ℕ → List (List ℕ) → List (List ℕ)
put true b [] = (b ∷ []) ∷ []
put true b (run ∷ runs) = (b ∷ run) ∷ runs
put false b runs = [] ∷ runs

-- the runs between the bytes that are of no token
unfoldable pub runs_of : List ℕ → List (List ℕ)
runs_of [] = [] ∷ []
runs_of (b ∷ bs) = put (is_token_byte b) b (runs_of bs)

abbrev pub has_some : {A : Type 0} → List A → Bool
has_some [] = false
has_some (x ∷ xs) = true

-- the tokens of a text: its longest runs of such bytes
unfoldable pub text_tokens : List ℕ → List (List ℕ)
text_tokens text = filter has_some (runs_of text)

-- ASCII letters count in lower case
abbrev pub same_token : List ℕ → List ℕ → Bool
same_token a b = bytes_eq (map to_ascii_lowercase a) (map to_ascii_lowercase b)

-- the first tokens stand at the front of the others
abbrev pub begins : List (List ℕ) → List (List ℕ) → Bool
begins [] ts = true
begins (w ∷ ws) [] = false
begins (w ∷ ws) (t ∷ ts) = same_token w t && begins ws ts

-- what stands behind some front of a list passes
abbrev pub some_end : {A : Type 0} → (List A → Bool) → List A → Bool
some_end p [] = p []
some_end p (x ∷ xs) = p (x ∷ xs) || some_end p xs

-- the tokens of a word, one at least, stand one after another among those of a text
abbrev pub stands : List ℕ → List ℕ → Bool
stands word text = has_some (text_tokens word) && some_end (begins (text_tokens word)) (text_tokens text)

-- the first token of a text, and what stands behind it
pub record TokenAhead (text token rest : List ℕ) : Type 0 where
  pub tokens : text_tokens text ≡ token ∷ text_tokens rest
  pub shorter : length rest < length text
