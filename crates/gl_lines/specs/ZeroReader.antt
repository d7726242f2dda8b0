-- What a reader of the frames that zero bytes end is seen as, and what it answers of more bytes.
use Rattle.std.specs.Prelude.{◌≡◌, ℕ, ◌-◌, ◌≤◌, ◌<◌, true, false, List, [], ◌∷◌, ◌++◌, length, take, Option, Some, None}
use Rattle.gl_base.specs.declared.fed.Fed.{Fed}
use Rattle.gl_base.specs.declared.fed.Fed.TheVariants as fed
use Rattle.gl_lines.specs.Reader.{IsLast}
use Rattle.gl_lines.specs.ZeroFraming.{frames_of, is_too_long, open_of}

-- what came of the frame that hasn't ended, none behind one that was too long; and the frame that is lent
pub record ZeroView : Type 0 where
  pub rest : Option (List ℕ)
  pub frame : List ℕ

-- all bytes that were given leave this rest
abbrev pub Leaves : Option (List ℕ) → List ℕ → Type 0
Leaves (Some rest) given = (is_too_long given ≡ false) × (open_of given ≡ rest)
Leaves None given = is_too_long given ≡ true

-- a reader stands for all bytes that it was given
abbrev pub StandsFor : ZeroView → List ℕ → Type 0
StandsFor z given = Leaves z.rest given

-- what is answered of a piece behind the bytes that were given, of which so many were taken
abbrev pub Feeds : Fed → List ℕ → List ℕ → List ℕ → ℕ → Type 0
Feeds fed.Whole frame given piece n = (0 < n) × (n ≤ length piece) × (is_too_long (given ++ take n piece) ≡ false) × (frames_of (given ++ take n piece) ≡ frames_of given ++ frame ∷ []) × (frames_of (given ++ take (n - 1) piece) ≡ frames_of given)
Feeds fed.Nothing frame given piece n = (n ≡ length piece) × (is_too_long (given ++ piece) ≡ false) × (frames_of (given ++ piece) ≡ frames_of given)
Feeds fed.TooLong frame given piece n = (n ≡ length piece) × (is_too_long given ≡ false) × (is_too_long (given ++ piece) ≡ true) × (frames_of (given ++ piece) ≡ frames_of given)
Feeds fed.Closed frame given piece n = (n ≡ length piece) × (is_too_long given ≡ true) × (frames_of (given ++ piece) ≡ frames_of given)

-- what a call answers, and what the reader stands for then
pub record Takes (z : ZeroView) (given piece : List ℕ) (n : ℕ) (fed : Fed) : Type 0 where
  pub feeds : Feeds fed z.frame given piece n
  pub stands : StandsFor z (given ++ take n piece)

-- the answer at the end of a connection: the rest is dropped, and no frame is lent
abbrev pub IsDropped : Option (List ℕ) → Fed → ZeroView → Type 0
IsDropped (Some rest) answer z = (z.rest ≡ Some []) × IsLast [] answer z.frame
IsDropped None answer z = (answer ≡ fed.Closed) × (z.rest ≡ None) × (z.frame ≡ [])

-- what is answered where the connection ends, and what the reader stands for then: the rest is dropped, and the reader begins anew, unless a frame was too long
abbrev pub IsEnd : Fed → ZeroView → List ℕ → Type 0
IsEnd fed.Nothing z given = (is_too_long given ≡ false) × StandsFor z []
IsEnd fed.Closed z given = (is_too_long given ≡ true) × StandsFor z given
IsEnd _ z given = ⊥
