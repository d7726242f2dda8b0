-- The frames of a connection (RFC 6587 sections 3.4.1 and 3.4.2): lines that end at LF, one CR before it taken off, and, where
-- counts are read, frames behind their MSG-LEN. An empty frame gives nothing. The limits are this project's.
use Rattle.std.specs.Prelude.{◌≡◌, ◌⊎◌, ℕ, ◌+◌, ◌-◌, ◌==◌, ◌≤◌, Bool, true, false, not, ◌&&◌, List, [], ◌∷◌, ◌++◌, length, take, drop, slice_index, nat_lt, nat_le, Option, Some, None, if◌then◌else◌}
use Rattle.std.specs.List.{prefix_len, list_all, AllByRecursion, concat}
use Rattle.std.specs.Char.{is_ascii_digit}
use Rattle.gl_base.specs.Digits.{decimal}

-- the bytes of the longest frame: those of a line before its LF, a CR included, or those behind a MSG-LEN
abbrev pub most : ℕ
most = 1048576

-- A MSG-LEN stands at the front: a digit from 1 to 9, at most six more digits, and a space.
unfoldable pub has_count : List ℕ → Bool
has_count text = nat_lt 0 (prefix_len is_ascii_digit text) && nat_le (prefix_len is_ascii_digit text) 7
    && not (slice_index text 0 == 48) && slice_index text (prefix_len is_ascii_digit text) == 32

-- what it says, and what stands behind its space
unfoldable pub count : List ℕ → ℕ
count text = decimal 0 (take (prefix_len is_ascii_digit text) text)

unfoldable pub behind_count : List ℕ → List ℕ
behind_count text = drop (prefix_len is_ascii_digit text + 1) text

-- where counts are read, a text is counted whose front is a MSG-LEN; each other one is a line
abbrev pub is_counted : Bool → List ℕ → Bool
is_counted counts text = counts && has_count text

abbrev pub has_no_end : List ℕ → Bool
has_no_end text = list_all (λ b. not (b == 10)) text

abbrev pub without_cr : List ℕ → List ℕ
without_cr line = if slice_index line (length line - 1) == 13 then take (length line - 1) line else line

-- All the bytes of one frame: a MSG-LEN and as many bytes as it says, or a line and its LF.
pub record IsCounted (counts : Bool) (unit : List ℕ) : Type 0 where
  pub is : is_counted counts unit ≡ true
  pub whole : length (behind_count unit) ≡ count unit
  pub few : count unit ≤ most

pub record IsLine (counts : Bool) (unit : List ℕ) : Type 0 where
  pub is : is_counted counts unit ≡ false
  pub line : List ℕ
  pub whole : unit ≡ line ++ 10 ∷ []
  pub one : has_no_end line ≡ true
  pub few : length line ≤ most

abbrev pub IsUnit : Bool → List ℕ → Type 0
IsUnit counts unit = IsCounted counts unit ⊎ IsLine counts unit

-- the frame that they are
abbrev pub frame_of : Bool → List ℕ → List ℕ
frame_of counts unit = if is_counted counts unit then behind_count unit else without_cr (take (length unit - 1) unit)

-- A text that a frame begins and that doesn't end it: fewer bytes than its MSG-LEN says, or no LF.
abbrev pub is_open : Bool → List ℕ → Bool
is_open counts text = if is_counted counts text then nat_lt (length (behind_count text)) (count text) else has_no_end text

-- A text of one frame alone: no more bytes than its MSG-LEN says, or no LF.
abbrev pub is_one : Bool → List ℕ → Bool
is_one counts text = if is_counted counts text then nat_le (length (behind_count text)) (count text) else has_no_end text

-- the bytes of it that the limit counts
abbrev pub part : Bool → List ℕ → List ℕ
part counts text = if is_counted counts text then behind_count text else text

-- a frame with the place at which it ends, where it isn't empty
abbrev pub shown : ℕ → List ℕ → List (ℕ × List ℕ)
shown place [] = []
shown place (b ∷ bs) = (place, b ∷ bs) ∷ []

abbrev pub frames_in : Bool → ℕ → List (List ℕ) → List (ℕ × List ℕ)
frames_in counts at [] = []
frames_in counts at (unit ∷ units) = shown (at + length unit) (frame_of counts unit) ++ frames_in counts (at + length unit) units

-- What stands behind the whole frames: a rest that is open, or what goes past the limit by one byte, and then anything.
abbrev pub Ends : Bool → List ℕ → Option (List ℕ) → Type 0
Ends counts tail (Some rest) = (tail ≡ rest) × (is_open counts rest ≡ true) × (length (part counts rest) ≤ most)
Ends counts tail None = (front : List ℕ) × (more : List ℕ) × (tail ≡ front ++ more) × (is_one counts front ≡ true) × (length (part counts front) ≡ most + 1)

-- All that came of a connection has these frames, each with its place, and behind them this rest, or none where a frame was too long.
pub record Framed (counts : Bool) (bytes : List ℕ) (frames : List (ℕ × List ℕ)) (rest : Option (List ℕ)) : Type 0 where
  pub units : List (List ℕ)
  pub tail : List ℕ
  pub whole : bytes ≡ concat units ++ tail
  pub each : AllByRecursion (IsUnit counts) units
  pub frames_are : frames ≡ frames_in counts 0 units
  pub ends : Ends counts tail rest

-- at the end of a connection the rest of a line is the last frame, as it stands; the rest of a counted frame is dropped
abbrev pub last_frame : Bool → List ℕ → List ℕ
last_frame counts rest = if is_counted counts rest then [] else rest
