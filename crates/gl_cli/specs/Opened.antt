-- The connections that are open stand for what they were sent.
use Rattle.std.specs.Prelude.{◌≡◌, ℕ, ◌<◌, ◌≤◌, ◌==◌, ◌&&◌, Bool, true, false, List, [], ◌∷◌, ◌++◌, length, take, get_or, All, ⊤}
use Rattle.std.specs.List.{list_any}
use Rattle.std.specs.Str.{bytes_eq}
use Rattle.gl_base.specs.declared.fed.Fed.{Fed}
use Rattle.gl_base.specs.declared.fed.Fed.TheVariants.{Nothing, Whole, TooLong, Closed}
use Rattle.gl_fields.specs.declared.input_kind.InputKind.{InputKind}
use Rattle.gl_fields.specs.declared.input_kind.InputKind.TheVariants.{Raw, Gelf, Syslog}
use Rattle.gl_lines.specs.ZeroReader as zero
use Rattle.gl_lines.specs.Reader.{ReaderView, StandsFor}
use Rattle.gl_cli.specs.declared.frames.Frames.{Frames}
use Rattle.gl_cli.specs.declared.frames.Frames.TheVariants.{Zero, Lines}
use Rattle.gl_cli.specs.declared.connections.Open.{Open}
use Rattle.gl_cli.specs.Connections.{Connection, ended_frames, is_closed, is_of}

-- a reader of lines was given these bytes
abbrev pub LinesStandFor : Bool → ReaderView → List ℕ → Type 0
LinesStandFor counts reader bytes = (reader.counts ≡ counts) × ((frames : List (ℕ × List ℕ)) × StandsFor reader bytes frames)

-- a reader of the frames of this kind was given these bytes
abbrev pub FramesStandFor : InputKind → Frames → List ℕ → Type 0
FramesStandFor Gelf (Zero z) bytes = zero.StandsFor z bytes
FramesStandFor Raw (Lines reader) bytes = LinesStandFor false reader bytes
FramesStandFor Syslog (Lines reader) bytes = LinesStandFor true reader bytes
FramesStandFor kind frames bytes = ⊥

-- the frame that is lent
abbrev pub frame_in : Frames → List ℕ
frame_in (Zero z) = z.frame
frame_in (Lines reader) = reader.frame

-- what is answered of a piece behind these bytes, of which so many were taken
abbrev pub Took : Fed → InputKind → List ℕ → List ℕ → ℕ → List ℕ → Type 0
Took Nothing kind bytes piece n frame =
    (n ≡ length piece) × (ended_frames kind (bytes ++ take n piece) ≡ ended_frames kind bytes) × (is_closed kind (bytes ++ take n piece) ≡ false)
Took Whole kind bytes piece n frame =
    (0 < n) × (ended_frames kind (bytes ++ take n piece) ≡ ended_frames kind bytes ++ frame ∷ []) × (is_closed kind (bytes ++ take n piece) ≡ false)
Took TooLong kind bytes piece n frame =
    (n ≡ length piece) × (ended_frames kind (bytes ++ take n piece) ≡ ended_frames kind bytes) × (is_closed kind (bytes ++ take n piece) ≡ true)
Took Closed kind bytes piece n frame = is_closed kind bytes ≡ true

-- what is answered where a connection ends whose last frame, none or one, this is
abbrev pub Ended : Fed → List (List ℕ) → List ℕ → Type 0
Ended Whole last frame = last ≡ frame ∷ []
Ended other last frame = last ≡ []

-- by each kind and all bytes that a reader stands for, where no frame was too long
abbrev pub ForReader : Frames → (InputKind → List ℕ → Type 0) → Type 0
ForReader frames P = (kind : InputKind) (before : List ℕ) → FramesStandFor kind frames before → is_closed kind before ≡ false → P kind before

pub record SomeReader (frames : Frames) : Type 0 where
  pub kind : InputKind
  pub before : List ℕ
  pub stands : FramesStandFor kind frames before
  pub going : is_closed kind before ≡ false

-- an open connection is what this one was sent
pub record IsOpen (o : Open) (c : Connection) : Type 0 where
  pub input : o.input ≡ c.input
  pub number : o.number ≡ c.number
  pub peer : o.peer ≡ c.peer
  pub some_peer : 0 < length c.peer
  pub short_peer : length c.peer ≤ 255
  pub frames : FramesStandFor c.kind o.frames c.bytes
  pub closed : o.closed ≡ is_closed c.kind c.bytes

-- a connection that was sent nothing
abbrev pub begun : List ℕ → ℕ → InputKind → List ℕ → Connection
begun input number kind peer = record { input = input; number = number; kind = kind; peer = peer; bytes = [] }

-- it is the one of this input and number
abbrev pub is_named : List ℕ → ℕ → Open → Bool
is_named input number o = bytes_eq o.input input && o.number == number

-- the first one of this input and number stands at this place
pub record IsPlace (all : List Open) (input : List ℕ) (number place : ℕ) : Type 0 where
  pub inside : place < length all
  pub is : (d : Open) → is_named input number (get_or all place d) ≡ true
  pub first : All (λ o. is_named input number o ≡ false) (take place all)

-- so are all, one for one, and no two have one input and number
abbrev pub ConnectionsStandFor : List Open → List Connection → Type 0
ConnectionsStandFor [] [] = ⊤
ConnectionsStandFor [] (c ∷ cs) = ⊥
ConnectionsStandFor (o ∷ all) [] = ⊥
ConnectionsStandFor (o ∷ all) (c ∷ cs) = IsOpen o c × (list_any (is_of c.input c.number) cs ≡ false) × ConnectionsStandFor all cs
