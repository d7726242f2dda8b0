-- What a clock gives, in milliseconds since 1970 (this project).
use Rattle.std.specs.Prelude.{◌≡◌, ◌⊎◌, ℕ, List, [], ◌∷◌, ◌++◌, ⊤, Option, Some, None, Contains}

-- the moments that are left, and the last one that was given; 0 before the first
pub record Moments : Type 0 where
  pub left : List ℕ
  pub last : ℕ

-- a call takes the first moment off and gives it; where none is left it gives the last one again
abbrev pub after : List ℕ → ℕ → Moments
after [] last = record { left = []; last = last }
after (moment ∷ later) last = record { left = later; last = moment }

abbrev pub Ticks : Option Moments → Option Moments → ℕ → Type 0
Ticks None new moment = ⊤
Ticks (Some m) None moment = ⊥
Ticks (Some m) (Some n) moment = (n ≡ after m.left m.last) × (moment ≡ n.last)

-- the moment is one that the clock gave meanwhile: one that left the list, or the last one where none is left
abbrev pub Gave : Option Moments → Option Moments → ℕ → Type 0
Gave None new moment = ⊤
Gave (Some m) None moment = ⊥
Gave (Some m) (Some n) moment = ((gone : List ℕ) × (m.left ≡ gone ++ n.left) × Contains gone moment) ⊎ ((n.left ≡ []) × (moment ≡ n.last))
