-- A session in the middle of its script.
use Rattle.std.specs.Prelude.{◌≡◌, ℕ, ◌+◌, ◌<◌, ◌≤◌, ◌↔◌, List, [], ◌∷◌, ◌++◌, length, take, Option, Some, ⊤}
use Rattle.std.specs.List.{flat_map, enumerate_from}
use Rattle.std.specs.Fmt.{decimal}
use Rattle.std.specs.Option.{option_map}
use Rattle.std.specs.Io.KnownBytes.{Appends}
use Rattle.gl_outside.specs.Disk.{Image, DiskState, LeavesOnly, Tells}
use Rattle.gl_node.specs.Moments.{LeftBy}
use Rattle.gl_node.specs.Node.{NodeOn}
use Rattle.gl_node.specs.Standing.{StandsFor}
use Rattle.gl_node.specs.State.{Base, State, opened, state_after}
use Rattle.gl_fields.specs.declared.entry.Outcome.{Outcome}
use Rattle.gl_node.specs.Claims.{claim_answer, claimed_by, finish_answer, finish_events}
use Rattle.gl_cli.specs.declared.connections.Connections.{Connections}
use Rattle.gl_cli.specs.declared.desk.Desk.{Desk}
use Rattle.gl_cli.specs.declared.line.Line.{Line}
use Rattle.gl_cli.specs.declared.line.Line.TheVariants.{Blank, At, Udp, Tcp, End, Claim, Finish, Listing}
use Rattle.gl_cli.specs.Answers.{words_text, claim_words, finish_words, outcome_words}
use Rattle.gl_cli.specs.Connections.{Connection}
use Rattle.gl_cli.specs.Crashes.{told_events}
use Rattle.gl_cli.specs.Desk.{DeskKeeps}
use Rattle.gl_cli.specs.Script.{lines_within, lines_run, bad_line, script_lines, script_limit, moment_after, last_moment}
use Rattle.gl_cli.specs.Opened.{ConnectionsStandFor}
use Rattle.gl_cli.specs.Runs.{Turn, answered, connections_after, payload_step, turns_of, script_turns, all_events, all_text, turn_events, turn_text}
use Rattle.gl_cli.specs.Writing.{BeginsWith}

-- a desk keeps a state, and connections stand for what they were sent
abbrev pub StandFor : Desk → Connections → State → List Connection → Type 0
StandFor desk connections s cs = DeskKeeps desk s × ConnectionsStandFor connections.all.items cs

-- something stands for a state and connections of which this holds
abbrev pub SomeAfter : (State → List Connection → Type 0) → (State → List Connection → Type 0) → Type 0
SomeAfter stands P = (s : State) × (cs : List Connection) × stands s cs × P s cs

-- a script of which some lines were read: what is ahead decides its status, whatever a node answers
pub record ReadTo (script : List ℕ) (ahead : Option (List ℕ)) (budget number : ℕ) : Type 0 where
  pub text : List ℕ
  pub ahead_is : ahead ≡ Some text
  pub bad : bad_line (script_lines script) ≡ option_map (λ k. number + k) (bad_line (lines_within budget text))
  pub long : (length script ≤ script_limit) ↔ (length text ≤ budget)

-- a session that has answered some lines: the turns so far, and then those of the lines ahead, are all
pub record Running (base : Base) (script : List ℕ) (before now : Option (List ℕ)) (s : State) (cs : List Connection) (ahead : Option (List ℕ)) (budget number moment : ℕ) : Type 0 where
  pub turns : List Turn
  pub past : List Line
  pub text : List ℕ
  pub ahead_is : ahead ≡ Some text
  pub all : script_turns base [] script ≡ turns ++ turns_of past cs s [] (lines_run (lines_within budget text))
  pub state_is : s ≡ state_after (opened base) (all_events turns)
  pub moment_is : moment ≡ moment_after past
  pub bad : bad_line (script_lines script) ≡ option_map (λ k. number + k) (bad_line (lines_within budget text))
  pub long : (length script ≤ script_limit) ↔ (length text ≤ budget)
  pub gained : Appends before now (all_text turns)

abbrev pub payload_turn : ℕ → List ℕ → List ℕ → List ℕ → State → Turn
payload_turn moment input peer bytes s = payload_step moment input peer bytes s ∷ []

abbrev pub claim_turn : ℕ → ℕ → State → Turn
claim_turn worker limit s =
    answered (claim_words worker (claim_answer s worker limit)) (claimed_by worker (claim_answer s worker limit)) ∷ []

abbrev pub finish_turn : ℕ → State → Turn
finish_turn worker s = answered (finish_words (finish_answer s worker)) (finish_events s worker) ∷ []

-- the lines of a list behind its first one
abbrev pub outcomes_text : List Outcome → List ℕ
outcomes_text outcomes = flat_map (λ item. words_text (decimal item.0 ∷ outcome_words item.1)) (enumerate_from 0 outcomes)

-- what a node takes: a peer of 1 to 255 bytes, workers below 64, limits from 1 to 256, and moments as far as there are any
abbrev pub IsFit : Line → Type 0
IsFit Blank = ⊤
IsFit (At next) = next ≤ last_moment
IsFit (Udp input peer payload) = (0 < length peer) × (length peer ≤ 255)
IsFit (Tcp input number peer payload) = (0 < length peer) × (length peer ≤ 255)
IsFit (End input number) = ⊤
IsFit (Claim worker limit) = (worker < 64) × (1 ≤ limit) × (limit ≤ 256)
IsFit (Finish worker) = worker < 64
IsFit Listing = ⊤

-- a line was answered: its answer lines are in the sink
abbrev pub Answered : Turn → Option (List ℕ) → Option (List ℕ) → Type 0
Answered turn before now = Appends before now (turn_text turn)

-- or the session ended in a line: a front of its answer lines is in the sink
pub record CutShort (turn : Turn) (before now : Option (List ℕ)) : Type 0 where
  pub front : List ℕ
  pub begins : BeginsWith (turn_text turn) front
  pub gained : Appends before now front

-- For each state that the desk kept: it keeps the state after a turn's events, and the turn's answer lines are in the sink.
abbrev pub DoesTurn : (State → Turn) → Desk → Desk → Option (List ℕ) → Option (List ℕ) → Type 0
DoesTurn turn old new before now =
    (s : State) → DeskKeeps old s → DeskKeeps new (state_after s (turn_events (turn s))) × Answered (turn s) before now

abbrev pub CutsTurn : (State → Turn) → Desk → Option (List ℕ) → Option (List ℕ) → Type 0
CutsTurn turn old before now = (s : State) → DeskKeeps old s → CutShort (turn s) before now

-- A crash at any moment of a turn leaves the state after some of the first of its events.
abbrev pub DuringTurn : (State → Turn) → Desk → DiskState → DiskState → Type 0
DuringTurn turn desk old new =
    Tells old → NodeOn desk.node old → (s : State) → DeskKeeps desk s → LeavesOnly old new (LeftBy s (turn_events (turn s)) old)

-- Where the session ended in a line: a front of its answer lines is in the sink, and the image stands for the state after
-- some of the first of its events, all those of each answer line that has a byte in the sink.
pub record CutAt (s : State) (turn : Turn) (before now : Option (List ℕ)) (image : Image) : Type 0 where
  pub front : List ℕ
  pub begins : BeginsWith (turn_text turn) front
  pub gained : Appends before now front
  pub count : ℕ
  pub few : count ≤ length (turn_events turn)
  pub told : told_events turn front ≤ count
  pub stands : StandsFor image (state_after s (take count (turn_events turn)))

-- So it is with each image that a crash may leave then.
abbrev pub CutLeaves : (State → Turn) → Desk → Option (List ℕ) → Option (List ℕ) → DiskState → DiskState → Type 0
CutLeaves turn desk before now old new =
    Tells old → NodeOn desk.node old → (s : State) → DeskKeeps desk s → (image : Image) → new.may_leave image → CutAt s (turn s) before now image

-- The same by each list that the connections stand for: it is a line's turn with these connections.
abbrev pub With : Connections → (List Connection → Type 0) → Type 0
With connections P = (cs : List Connection) → ConnectionsStandFor connections.all.items cs → P cs

-- after a line they stand for what it leaves of the list
abbrev pub Follows : Line → Desk → Connections → Connections → Type 0
Follows line desk old new = (cs : List Connection) → ConnectionsStandFor old.all.items cs → (s : State) → DeskKeeps desk s → ConnectionsStandFor new.all.items (connections_after s cs line)
