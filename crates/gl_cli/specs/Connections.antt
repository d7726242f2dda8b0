-- The connections of a session: what each was sent, and the frames that its bytes give.
use Rattle.std.specs.Prelude.{ℕ, Bool, true, false, not, ◌&&◌, List, [], ◌++◌, length, drop, map, filter, find, ◌==◌, Option, if◌then◌else◌}
use Rattle.std.specs.Str.{bytes_eq}
use Rattle.gl_fields.specs.declared.input_kind.InputKind.{InputKind}
use Rattle.gl_fields.specs.declared.input_kind.InputKind.TheVariants.{Raw, Gelf, Syslog}
use Rattle.gl_lines.specs.ZeroFraming.{frames_of, is_too_long}
use Rattle.gl_lines.specs.LineFrames.{line_frames, has_long_line, last_line_frame}

pub record Connection : Type 0 where
  pub input : List ℕ
  pub number : ℕ
  pub kind : InputKind
  -- the peer of the last line that sent something
  pub peer : List ℕ
  -- all that was sent
  pub bytes : List ℕ

-- the frames that have ended: parts between zero bytes, lines, or lines and counted frames
abbrev pub ended_frames : InputKind → List ℕ → List (List ℕ)
ended_frames Gelf bytes = frames_of bytes
ended_frames Raw bytes = line_frames false bytes
ended_frames Syslog bytes = line_frames true bytes

-- a frame passed 1,048,576 bytes: the connection is closed
abbrev pub is_closed : InputKind → List ℕ → Bool
is_closed Gelf bytes = is_too_long bytes
is_closed Raw bytes = has_long_line false bytes
is_closed Syslog bytes = has_long_line true bytes

-- the frame, if there is one, that the end of the connection ends
abbrev pub last_frame : InputKind → List ℕ → List (List ℕ)
last_frame Gelf bytes = []
last_frame Raw bytes = last_line_frame false bytes
last_frame Syslog bytes = last_line_frame true bytes

-- how many connections may be open
abbrev pub most_connections : ℕ
most_connections = 256

abbrev pub is_of : List ℕ → ℕ → Connection → Bool
is_of input number c = bytes_eq c.input input && c.number == number

abbrev pub connection_of : List ℕ → ℕ → List Connection → Option Connection
connection_of input number cs = find (is_of input number) cs

-- what a connection was sent, and now this; a closed one takes nothing
abbrev pub with_sent : List ℕ → List ℕ → Connection → Connection
with_sent peer payload c = if is_closed c.kind c.bytes then c else record c { peer = peer; bytes = c.bytes ++ payload }

-- the connections with this one in the place of the one of its input and number
abbrev pub replaced : Connection → List Connection → List Connection
replaced c cs = map (λ other. if is_of c.input c.number other then c else other) cs

-- the frames that end in these bytes, behind those that were sent before
abbrev pub new_frames : InputKind → List ℕ → List ℕ → List (List ℕ)
new_frames kind before bytes = drop (length (ended_frames kind before)) (ended_frames kind (before ++ bytes))

-- the connections but for this one
abbrev pub forgotten : List ℕ → ℕ → List Connection → List Connection
forgotten input number cs = filter (λ c. not (is_of input number c)) cs
