-- The frames of all bytes that a connection sent: the parts that zero bytes end, but for empty ones (GELF by TCP). A
-- frame of more than 1,048,576 bytes ends them.
use Rattle.std.specs.Prelude.{ℕ, Bool, true, false, List, [], ◌∷◌, length, nat_lt, ◌==◌, if◌then◌else◌}
use Rattle.std.specs.List.{list_any}

-- a byte goes to the front of the part behind it, and a zero byte ends a part before it
abbrev pub put : Bool → ℕ → List (List ℕ) → List (List ℕ)
put true b parts = [] ∷ parts
put false b [] = (b ∷ []) ∷ []
put false b (part ∷ parts) = (b ∷ part) ∷ parts

-- the parts between zero bytes; none has ended the last one
unfoldable pub parts_of : List ℕ → List (List ℕ)
parts_of [] = [] ∷ []
parts_of (b ∷ bytes) = put (b == 0) b (parts_of bytes)

abbrev pub is_long : List ℕ → Bool
is_long part = nat_lt 1048576 (length part)

abbrev pub with_part : List ℕ → List (List ℕ) → List (List ℕ)
with_part [] frames = frames
with_part (b ∷ part) frames = (b ∷ part) ∷ frames

-- the frames among parts: those that have ended and aren't empty, before the first that is too long
abbrev pub ended_of : List (List ℕ) → List (List ℕ)
ended_of [] = []
ended_of (part ∷ []) = []
ended_of (part ∷ next ∷ parts) = if is_long part then [] else with_part part (ended_of (next ∷ parts))

unfoldable pub frames_of : List ℕ → List (List ℕ)
frames_of bytes = ended_of (parts_of bytes)

-- a frame passes 1,048,576 bytes
unfoldable pub is_too_long : List ℕ → Bool
is_too_long bytes = list_any is_long (parts_of bytes)

abbrev pub last_part : List (List ℕ) → List ℕ
last_part [] = []
last_part (part ∷ []) = part
last_part (part ∷ next ∷ parts) = last_part (next ∷ parts)

-- the bytes of the frame that hasn't ended
unfoldable pub open_of : List ℕ → List ℕ
open_of bytes = last_part (parts_of bytes)
