-- What a reader of zero-ended frames keeps, and how it is seen. This file is cited between private functions alone.
use Rattle.std.specs.Prelude.{◌≤◌, ℕ, ⊤, Bool, not, List, [], ◌∷◌, ◌==◌, Option, Some, None}
use Rattle.std.specs.List.{prefix_len}
use Rattle.std.specs.Vec.{vec_capacity}
use Rattle.gl_lines.specs.declared.zero_front.Stage.{Stage}
use Rattle.gl_lines.specs.declared.zero_front.Stage.TheVariants as stages
use Rattle.gl_lines.specs.declared.zero_front.ZeroFront.{ZeroFront}
use Rattle.gl_lines.specs.declared.zero_frames.ZeroFrames.TheInside.{Inside}
use Rattle.gl_lines.specs.ZeroReader.{ZeroView}

abbrev pub is_zero : ℕ → Bool
is_zero b = b == 0

abbrev pub is_not_zero : ℕ → Bool
is_not_zero b = not (b == 0)

-- zero bytes before a frame that hasn't begun give nothing
abbrev pub skip_len : List ℕ → List ℕ → ℕ
skip_len [] piece = prefix_len is_zero piece
skip_len (b ∷ kept) piece = 0

abbrev pub rest_at : Stage → List ℕ → Option (List ℕ)
rest_at stages.Open kept = Some kept
rest_at stages.Ended kept = Some []
rest_at stages.Closed kept = None

abbrev pub lent_at : Stage → List ℕ → List ℕ
lent_at stages.Open kept = []
lent_at stages.Ended kept = kept
lent_at stages.Closed kept = []

abbrev pub zero_view : ZeroFront → ZeroView
zero_view front = record { rest = rest_at front.stage front.bytes.items; frame = lent_at front.stage front.bytes.items }

-- bytes may be put behind those that came
abbrev pub IsOpen : Stage → Type 0
IsOpen stages.Open = ⊤
IsOpen stages.Ended = ⊥
IsOpen stages.Closed = ⊥

-- there is room for the longest frame
abbrev pub HasRoom : ZeroFront → Type 0
HasRoom front = 1048576 ≤ vec_capacity front.bytes

abbrev pub zero_reader_of : Inside → ZeroView
zero_reader_of z = zero_view z.front

abbrev pub IsZeroReader : Inside → Type 0
IsZeroReader z = HasRoom z.front
