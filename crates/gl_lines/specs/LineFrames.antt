-- The frames of a connection as functions of all its bytes.
use Rattle.std.specs.Prelude.{ℕ, zero, suc, ◌+◌, ◌-◌, ◌==◌, Bool, true, false, not, ◌&&◌, List, [], ◌∷◌, length, map, filter, take, drop, nat_lt, nat_le, Option, Some, None, if◌then◌else◌}
use Rattle.std.specs.List.{prefix_len, concat}
use Rattle.gl_lines.specs.LineFraming.{most, is_counted, count, behind_count, part, frame_of, last_frame}

-- how many bytes stand before the first LF
abbrev pub line_len : List ℕ → ℕ
line_len text = prefix_len (λ b. not (b == 10)) text

-- How many bytes the frame at the front has, its MSG-LEN or its LF with it; 0 where it hasn't ended or passes the limit.
abbrev pub unit_len : Bool → List ℕ → ℕ
unit_len counts text =
    if is_counted counts text
    then (if nat_le (count text) most && nat_le (count text) (length (behind_count text)) then length text - length (behind_count text) + count text else 0)
    else (if nat_le (line_len text) most && nat_lt (line_len text) (length text) then line_len text + 1 else 0)

-- the frames at the front, each with all its bytes; the number bounds how many
abbrev pub units_by : ℕ → Bool → List ℕ → List (List ℕ)
units_by zero counts text = []
units_by (suc n) counts text =
    if unit_len counts text == 0 then []
    else take (unit_len counts text) text ∷ units_by n counts (drop (unit_len counts text) text)

-- all of them, since each has a byte
abbrev pub units : Bool → List ℕ → List (List ℕ)
units counts bytes = units_by (length bytes) counts bytes

-- what stands behind them
abbrev pub behind_units : Bool → List ℕ → List ℕ
behind_units counts bytes = drop (length (concat (units counts bytes))) bytes

abbrev pub isnt_empty : List ℕ → Bool
isnt_empty [] = false
isnt_empty (b ∷ bs) = true

-- the frames that have ended, but for empty ones, up to one that is too long
abbrev pub line_frames : Bool → List ℕ → List (List ℕ)
line_frames counts bytes = filter isnt_empty (map (frame_of counts) (units counts bytes))

-- a frame passes the limit
abbrev pub has_long_line : Bool → List ℕ → Bool
has_long_line counts bytes = nat_lt most (length (part counts (behind_units counts bytes)))

-- the frame, none or one, that the end of the connection ends
abbrev pub last_line_frame : Bool → List ℕ → List (List ℕ)
last_line_frame counts bytes =
    if has_long_line counts bytes then [] else filter isnt_empty (last_frame counts (behind_units counts bytes) ∷ [])

-- the same, of what a reader keeps as its rest
abbrev pub last_of_rest : Bool → Option (List ℕ) → List (List ℕ)
last_of_rest counts None = []
last_of_rest counts (Some rest) = filter isnt_empty (last_frame counts rest ∷ [])
