-- What an attempt at a pattern tells.
use Rattle.std.specs.Prelude.{◌≡◌, ℕ, ◌≤◌, true, false, List, ◌∷◌, length, drop}
use Rattle.gl_query.specs.declared.term.Piece.{Piece}
use Rattle.gl_query.specs.declared.term.Piece.TheVariants.{AnyRun}
use Rattle.gl_query.specs.declared.pattern.Attempt.{Attempt}
use Rattle.gl_query.specs.declared.pattern.Attempt.TheVariants.{Covered, Failed, Run}
use Rattle.gl_query.specs.Patterns.{covers}

-- the first is what stands behind some front of the second
abbrev pub IsEnd : List ℕ → List ℕ → Type 0
IsEnd v u = (k : ℕ) × (v ≡ drop k u)

-- Where the pattern covers an end of the text, this one covers an end of that text.
abbrev pub GoesOn : List Piece → List ℕ → List Piece → List ℕ → Type 0
GoesOn pattern text left rest = (v : List ℕ) → IsEnd v text → covers pattern v ≡ true → (w : List ℕ) × IsEnd w rest × (covers left w ≡ true)

pub record Reaches (pattern : List Piece) (text : List ℕ) (left : List Piece) (rest : List ℕ) : Type 0 where
  pub same : covers pattern text ≡ covers left rest
  pub goes_on : GoesOn pattern text left rest
  pub fewer : length left ≤ length pattern
  pub shorter : length rest ≤ length text

abbrev pub Tried : List Piece → List ℕ → Attempt → Type 0
Tried pattern text Covered = covers pattern text ≡ true
Tried pattern text Failed = covers pattern text ≡ false
Tried pattern text (Run more rest) = Reaches pattern text (AnyRun ∷ more.now) rest.now
