-- What is made of a text: its letters in one case, the spaces at its ends left out, and one part in place of another (this
-- project).
use Rattle.std.specs.Prelude.{ℕ, zero, suc, ◌-◌, ◌==◌, List, [], ◌∷◌, ◌++◌, map, length, reverse, if◌then◌else◌}
use Rattle.std.specs.Char.{to_ascii_lowercase, to_ascii_uppercase}
use Rattle.gl_text.specs.Texts.{begins_with}

-- with each ASCII letter in lower case, or in upper case
abbrev pub lowercase : List ℕ → List ℕ
lowercase text = map to_ascii_lowercase text

abbrev pub uppercase : List ℕ → List ℕ
uppercase text = map to_ascii_uppercase text

-- without the spaces at its front
unfoldable pub past_spaces : List ℕ → List ℕ
past_spaces [] = []
past_spaces (b ∷ text) = if b == 32 then past_spaces text else b ∷ text

-- without the spaces at both ends
abbrev pub trimmed : List ℕ → List ℕ
trimmed text = reverse (past_spaces (reverse (past_spaces text)))

-- of a text whose first bytes, this many, belong to what was replaced: what stands behind them, with `new` in the place of
-- each occurrence
unfoldable pub replaced_behind : ℕ → List ℕ → List ℕ → List ℕ → List ℕ
replaced_behind taken part new [] = []
replaced_behind (suc taken) part new (b ∷ text) = replaced_behind taken part new text
replaced_behind zero part new (b ∷ text) =
    if begins_with part (b ∷ text) then new ++ replaced_behind (length part - 1) part new text
    else b ∷ replaced_behind zero part new text

-- with `new` in the place of each occurrence of the part, taken from the left; the empty part is in no place
abbrev pub replaced : List ℕ → List ℕ → List ℕ → List ℕ
replaced part new text = if length part == 0 then text else replaced_behind 0 part new text
