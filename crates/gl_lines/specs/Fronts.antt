-- What a reader keeps of a frame, and what a byte does to it.
use Rattle.std.specs.Prelude.{◌≡◌, ◌⊎◌, ◌+◌, ◌==◌, ◌<◌, ◌≤◌, ℕ, ⊤, Bool, true, false, not, ◌&&◌, nat_lt, List, [], ◌++◌, length, drop, slice_index, slice_range, Option, Some, None}
use Rattle.std.specs.List.{list_all}
use Rattle.std.specs.Vec.{vec_capacity}
use Rattle.gl_base.specs.declared.fed.Fed.{Fed}
use Rattle.gl_base.specs.declared.fed.Fed.TheVariants.{Nothing, Whole, TooLong, Closed}
use Rattle.gl_lines.specs.declared.front.Front.{Front}
use Rattle.gl_lines.specs.declared.front.State.{State}
use Rattle.gl_lines.specs.declared.front.State.TheVariants as states
use Rattle.std.specs.Char.{is_ascii_digit}
use Rattle.gl_base.specs.Digits.{decimal}
use Rattle.gl_lines.specs.Reader.{ReaderView, told}
use Rattle.gl_lines.specs.LineFraming.{Framed, most, is_counted, count, behind_count, has_no_end, is_open, is_one, part, IsUnit, frame_of}

-- only digits of a MSG-LEN came so far
pub record IsBegun (counts : Bool) (bytes : List ℕ) (n : ℕ) : Type 0 where
  pub is : counts ≡ true
  pub digits : list_all is_ascii_digit bytes ≡ true
  pub few : length bytes ≤ 7
  pub first : (slice_index bytes 0 == 48) ≡ false
  pub value : n ≡ decimal 0 bytes

-- a byte that ends a MSG-LEN of so many digits
abbrev pub ends_count : ℕ → ℕ → Bool
ends_count len b = nat_lt 0 len && b == 32

-- a byte that goes on with a MSG-LEN behind so many digits
abbrev pub goes_on : ℕ → ℕ → Bool
goes_on len b = nat_lt len 7 && is_ascii_digit b && not (len == 0 && b == 48)

-- however it goes on, it is a line
pub record IsLineFront (counts : Bool) (bytes : List ℕ) : Type 0 where
  pub never : (more : List ℕ) → is_counted counts (bytes ++ more) ≡ false
  pub one : has_no_end bytes ≡ true
  pub few : length bytes ≤ most

pub record IsCountedFront (counts : Bool) (bytes : List ℕ) (head n : ℕ) : Type 0 where
  pub is : is_counted counts bytes ≡ true
  pub behind : behind_count bytes ≡ drop head bytes
  pub value : n ≡ count bytes
  pub short : head ≤ 8
  pub within : head ≤ length bytes
  pub less : length bytes < head + n
  pub few : length bytes ≤ head + most

abbrev pub IsState : Bool → List ℕ → State → Type 0
IsState counts bytes (states.Begun n) = IsBegun counts bytes n
IsState counts bytes states.Line = IsLineFront counts bytes
IsState counts bytes (states.Counted head n) = IsCountedFront counts bytes head n
IsState counts bytes (states.Whole from to) = (from ≤ to) × (to ≤ length bytes)
IsState counts bytes states.Closed = ⊤

pub record IsFront (counts : Bool) (front : Front) : Type 0 where
  pub room : most + 9 ≤ vec_capacity front.bytes
  pub state : IsState counts front.bytes.items front.state

abbrev pub IsTaking : State → Type 0
IsTaking (states.Begun n) = ⊤
IsTaking states.Line = ⊤
IsTaking (states.Counted head n) = ⊤
IsTaking (states.Whole from to) = ⊥
IsTaking states.Closed = ⊥

abbrev pub rest_in : List ℕ → State → Option (List ℕ)
rest_in bytes (states.Begun n) = Some bytes
rest_in bytes states.Line = Some bytes
rest_in bytes (states.Counted head n) = Some bytes
rest_in bytes (states.Whole from to) = Some []
rest_in bytes states.Closed = None

abbrev pub lent_in : List ℕ → State → List ℕ
lent_in bytes (states.Begun n) = []
lent_in bytes states.Line = []
lent_in bytes (states.Counted head n) = []
lent_in bytes (states.Whole from to) = slice_range bytes from to
lent_in bytes states.Closed = []

abbrev pub rest_of : Front → Option (List ℕ)
rest_of front = rest_in front.bytes.items front.state

abbrev pub lent_of : Front → List ℕ
lent_of front = lent_in front.bytes.items front.state

-- the text has become what this answer says
abbrev pub Becomes : Bool → List ℕ → Fed → Option (List ℕ) → List ℕ → Type 0
Becomes counts text Nothing rest lent =
    ((rest ≡ Some text) × (is_open counts text ≡ true) × (length (part counts text) ≤ most))
    ⊎ ((rest ≡ Some []) × IsUnit counts text × (frame_of counts text ≡ []))
Becomes counts text Whole rest lent = (rest ≡ Some []) × IsUnit counts text × (frame_of counts text ≡ lent) × (0 < length lent)
Becomes counts text TooLong rest lent = (rest ≡ None) × (is_one counts text ≡ true) × (length (part counts text) ≡ most + 1)
Becomes counts text Closed rest lent = ⊥

abbrev pub view_of : Bool → Front → ReaderView
view_of counts front = record { counts = counts; rest = rest_of front; frame = lent_of front }

-- Behind any bytes that had these frames, the bytes that were added have those that the answer tells.
abbrev pub Moves : Bool → Option (List ℕ) → Option (List ℕ) → List ℕ → Fed → List ℕ → Type 0
Moves counts old new added answer lent =
    (bytes : List ℕ) (frames : List (ℕ × List ℕ)) → Framed counts bytes frames old
    → Framed counts (bytes ++ added) (frames ++ told answer (length bytes + length added) lent) new
