-- How the index keeps its words: under a key that is made of the word, with others that have the same key by chance.
use Rattle.std.specs.Prelude.{◌≡◌, ℕ, ◌+◌, ◌*◌, ◌%◌, ◌^◌, Bool, ◌&&◌, false, nat_eq, List, [], ◌∷◌, if◌then◌else◌}
use Rattle.std.specs.HashMap.{HashMap, get}
use Rattle.std.specs.List.{fold}
use Rattle.std.specs.Option.{unwrap_or}
use Rattle.std.specs.Str.{bytes_eq}
use Rattle.gl_query.specs.Required.{is_number}
use Rattle.gl_words.specs.declared.postings.Postings.{Postings}
use Rattle.gl_words.specs.declared.word.Word.{Word}
use Rattle.gl_words.specs.Positions.{without_position}

-- a key with one more byte, in 64 bits
unfoldable pub mixed : ℕ → ℕ → ℕ
mixed key byte = ((key + byte) % 2 ^ 64 * 1099511628211) % 2 ^ 64

-- the key of a token in a field
abbrev pub key_of : List ℕ → List ℕ → ℕ
key_of field token = fold mixed (fold mixed 0 field) token

-- both are the same token in the same field
abbrev pub is_same : List ℕ → List ℕ → List ℕ → List ℕ → Bool
is_same field token field' token' = bytes_eq field field' && bytes_eq token' token

-- the positions of the first of these words that is this token in this field
abbrev pub positions_of : List ℕ → List ℕ → List Word → List ℕ
positions_of field token [] = []
positions_of field token (word ∷ words) = if is_same word.field word.token field token then word.positions else positions_of field token words

-- the words that have a key
abbrev pub words_at : {S : Type 0} → HashMap ℕ (List Word) S → ℕ → List Word
words_at words key = unwrap_or (get nat_eq words key) []

-- the positions that are kept of a token in a field
abbrev pub kept_in : {S : Type 0} → HashMap ℕ (List Word) S → List ℕ → List ℕ → List ℕ
kept_in words field token = positions_of field token (words_at words (key_of field token))

abbrev pub kept_of : Postings → List ℕ → List ℕ → List ℕ
kept_of postings field token = kept_in postings.words field token

-- What is kept of the words that pass a test is changed, and what is kept of others stays. Tokens of digits alone are no matter.
abbrev pub Changes : (List ℕ → List ℕ) → (List ℕ → List ℕ → Bool) → (before after : List ℕ → List ℕ → List ℕ) → Type 0
Changes change test before after = (field token : List ℕ) → is_number token ≡ false
    → after field token ≡ (if test field token then change (before field token) else before field token)

-- Besides one position all that is kept stays, and what is kept of words that don't pass a test stays altogether.
pub record StaysBesides (position : ℕ) (test : List ℕ → List ℕ → Bool) (before after : List ℕ → List ℕ → List ℕ) : Type 0 where
  pub others : (field token : List ℕ) → is_number token ≡ false → without_position position (after field token) ≡ without_position position (before field token)
  pub elsewhere : (field token : List ℕ) → is_number token ≡ false → test field token ≡ false → after field token ≡ before field token
