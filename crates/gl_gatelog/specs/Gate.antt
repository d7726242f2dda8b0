-- What a crash may leave of a gate, while bytes are staged behind it and it is opened.
use Rattle.std.specs.Prelude.{◌≡◌, ◌≢◌, ◌⊎◌, ℕ, ◌≤◌, ◌<◌, List, ◌∷◌, length, take, drop, slice_index, Bool, true, false}
use Rattle.gl_outside.specs.Disk.{Image, DiskState}

-- a gate stands at this place, and it isn't open
pub record IsShut (at : ℕ) (area : List ℕ) : Type 0 where
  pub there : at < length area
  pub shut : slice_index area at ≢ 1

-- the same before the gate, and the gate is shut
pub record StaysShut (at : ℕ) (old new : List ℕ) : Type 0 where
  pub before : take at new ≡ take at old
  pub gate : IsShut at new

-- the same before the gate, the gate is open, and these bytes stand behind it
pub record IsOpened (at : ℕ) (bytes old new : List ℕ) : Type 0 where
  pub before : take at new ≡ take at old
  pub opened : take (length (1 ∷ bytes)) (drop at new) ≡ 1 ∷ bytes

abbrev pub ShutOrOpened : ℕ → List ℕ → List ℕ → List ℕ → Type 0
ShutOrOpened at bytes old new = StaysShut at old new ⊎ IsOpened at bytes old new

-- No batch stands at this place: the area is empty or a lone gate, or a gate stands there that isn't open.
abbrev pub IsClosed : ℕ → List ℕ → Type 0
IsClosed at area = ((at ≡ 0) × (length area ≤ 1)) ⊎ IsShut at area

-- the same before the place, and it is closed
pub record StaysClosed (at : ℕ) (old new : List ℕ) : Type 0 where
  pub before : take at new ≡ take at old
  pub closed : IsClosed at new

abbrev pub ClosedOrOpened : ℕ → List ℕ → List ℕ → List ℕ → Type 0
ClosedOrOpened at bytes old new = StaysClosed at old new ⊎ IsOpened at bytes old new

-- a gate stands there and is shut, and it is no lone gate; or the area holds nothing or a lone gate
abbrev pub Waits : Bool → ℕ → List ℕ → Type 0
Waits true at area = IsShut at area × (1 < length area)
Waits false at area = (at ≡ 0) × (length area ≤ 1)

pub record StillWaits (gated : Bool) (at : ℕ) (old new : List ℕ) : Type 0 where
  pub before : take at new ≡ take at old
  pub waits : Waits gated at new

-- in each image that the disk may leave, the gate is shut; or the place waits for a batch
abbrev pub AllShut : ℕ → ℕ → DiskState → Type 0
AllShut area at disk = (c : Image) → disk.may_leave c → IsShut at (c area)

abbrev pub AllWait : Bool → ℕ → ℕ → DiskState → Type 0
AllWait gated area at disk = (c : Image) → disk.may_leave c → Waits gated at (c area)
