-- What a reader of frames answers, and what a reader of lines is seen as.
use Rattle.std.specs.Prelude.{◌≡◌, ◌<◌, ℕ, Bool, List, [], ◌∷◌, length, Option, Some, None, IsSome}
use Rattle.gl_base.specs.declared.fed.Fed.{Fed}
use Rattle.gl_base.specs.declared.fed.Fed.TheVariants.{Nothing, Whole, TooLong, Closed}
use Rattle.gl_lines.specs.LineFraming.{Framed}

-- whether counts are read; what came of the frame that hasn't ended, none behind one that was too long; and the frame that is lent
pub record ReaderView : Type 0 where
  pub counts : Bool
  pub rest : Option (List ℕ)
  pub frame : List ℕ

-- All that the reader was given are these bytes, and they have these frames.
abbrev pub StandsFor : ReaderView → List ℕ → List (ℕ × List ℕ) → Type 0
StandsFor reader bytes frames = Framed reader.counts bytes frames reader.rest

-- the frame that an answer tells, which ends at this place
abbrev pub told : Fed → ℕ → List ℕ → List (ℕ × List ℕ)
told Nothing place frame = []
told Whole place frame = (place, frame) ∷ []
told TooLong place frame = []
told Closed place frame = []

-- Which answer it is, of a call that took so many of so many bytes: by the rest before it and the rest and the lent
-- frame behind it.
abbrev pub IsAnswer : Fed → Option (List ℕ) → Option (List ℕ) → List ℕ → ℕ → ℕ → Type 0
IsAnswer Nothing old new frame taken all = IsSome old × IsSome new × (taken ≡ all) × (frame ≡ [])
IsAnswer Whole old new frame taken all = IsSome old × (new ≡ Some []) × (0 < length frame)
IsAnswer TooLong old new frame taken all = IsSome old × (new ≡ None) × (taken ≡ all) × (frame ≡ [])
IsAnswer Closed old new frame taken all = (old ≡ None) × (new ≡ None) × (taken ≡ all) × (frame ≡ [])

-- the answer at the end of a connection whose last frame is this, and the frame that is lent then
abbrev pub IsLast : List ℕ → Fed → List ℕ → Type 0
IsLast [] answer frame = (answer ≡ Nothing) × (frame ≡ [])
IsLast (b ∷ bs) answer frame = (answer ≡ Whole) × (frame ≡ b ∷ bs)
