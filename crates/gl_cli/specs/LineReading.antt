-- How a script is read, line by line, whatever pieces the source gives.
use Rattle.std.specs.Prelude.{◌≡◌, ◌≢◌, ℕ, ◌-◌, ◌<◌, ◌≤◌, ◌↔◌, List, [], ◌∷◌, length, take, drop, Option, Some, None, ⊤, All, slice_index}
use Rattle.gl_cli.specs.declared.reader.Next.{Next}
use Rattle.gl_cli.specs.declared.reader.Next.TheVariants.{Line, End, TooLong}
use Rattle.gl_cli.specs.Script.{lines_within}

-- no line feed
abbrev pub NoNewline : List ℕ → Type 0
NoNewline bytes = All (λ b. b ≢ 10) bytes

-- the first line feed stands at this place, which is within the budget
pub record IsNewlineAt (bytes : List ℕ) (budget place : ℕ) : Type 0 where
  pub inside : place < length bytes
  pub allowed : place < budget
  pub is : slice_index bytes place ≡ 10
  pub first : NoNewline (take place bytes)

-- of these bytes the front was given, and up to a place behind it no line feed stands
pub record IsSearched (start searched : ℕ) (bytes : List ℕ) : Type 0 where
  pub begun : start ≤ searched
  pub within : searched ≤ length bytes
  pub clear : NoNewline (take (searched - start) (drop start bytes))

-- what a reading gives of the bytes ahead, and what is ahead of it then
abbrev pub Gives : Next → List ℕ → ℕ → List ℕ → ℕ → Type 0
Gives (Line line) ahead budget after rest =
    (lines_within budget ahead ≡ line ∷ lines_within rest after) × ((length ahead ≤ budget) ↔ (length after ≤ rest))
Gives End ahead budget after rest = (lines_within budget ahead ≡ []) × (length ahead ≤ budget) × (after ≡ [])
Gives TooLong ahead budget after rest = (lines_within budget ahead ≡ []) × (budget < length ahead)

-- the same where the bytes ahead are known
abbrev pub GivesKnown : Next → Option (List ℕ) → ℕ → Option (List ℕ) → ℕ → Type 0
GivesKnown next None budget after rest = ⊤
GivesKnown next (Some ahead) budget None rest = ⊥
GivesKnown next (Some ahead) budget (Some after) rest = Gives next ahead budget after rest

abbrev pub IsLine : Next → Type 0
IsLine (Line line) = ⊤
IsLine End = ⊥
IsLine TooLong = ⊥
