-- The run of a script: each line's answers and events, determined by the lines up to it and the state before it.
use Rattle.std.specs.Prelude.{ℕ, Bool, true, false, List, [], ◌∷◌, ◌++◌, length, drop, map, nat_le, codes, Option, Some, None, if◌then◌else◌}
use Rattle.std.specs.List.{flat_map, enumerate_from}
use Rattle.std.specs.Fmt.{decimal}
use Rattle.gl_node.specs.State.{State, Event, Base, opened, state_after, commit_count, outcomes}
use Rattle.gl_node.specs.Arrivals.{arrival_of, arrival_events, datagram_answer, datagram_events}
use Rattle.gl_node.specs.Configuration.{config_after, kind_of}
use Rattle.gl_fields.specs.declared.input_kind.InputKind.{InputKind}
use Rattle.gl_node.specs.declared.answer.Arrival.TheVariants.{FrameTooLong, UnknownInput}
use Rattle.gl_node.specs.Claims.{claim_answer, claimed_by, finish_answer, finish_events}
use Rattle.gl_cli.specs.declared.line.Line.{Line}
use Rattle.gl_cli.specs.declared.line.Line.TheVariants.{Blank, At, Udp, Tcp, End, Claim, Finish, Listing}
use Rattle.gl_cli.specs.Connections.{Connection, new_frames, is_closed, last_frame, most_connections, connection_of, with_sent, replaced, forgotten}
use Rattle.gl_cli.specs.Script.{moment_after, lines_run, script_lines}
use Rattle.gl_cli.specs.Answers.{words_text, arrival_words, claim_words, finish_words, outcome_words}

-- an answer line, and the events that it tells of
pub record Step : Type 0 where
  pub text : List ℕ
  pub events : List Event

-- what one line of the script gives
abbrev pub Turn : Type 0
Turn = List Step

abbrev pub answered : List (List ℕ) → List Event → Step
answered words events = record { text = words_text words; events = events }

abbrev pub listed : State → Turn
listed s = answered (codes "journal" ∷ decimal (length s.journal) ∷ codes "committed" ∷ decimal (commit_count s) ∷ []) []
    ∷ map (λ item. answered (decimal item.0 ∷ outcome_words item.1) []) (enumerate_from 0 (outcomes s))

-- what a datagram gives
abbrev pub datagram_turn : ℕ → List ℕ → List ℕ → List ℕ → State → Turn
datagram_turn moment input peer bytes s =
    answered (arrival_words (datagram_answer s moment input peer bytes)) (datagram_events s moment input peer bytes) ∷ []

-- what a payload gives
abbrev pub payload_step : ℕ → List ℕ → List ℕ → List ℕ → State → Step
payload_step moment input peer bytes s =
    answered (arrival_words (arrival_of s moment input peer bytes)) (arrival_events s moment input peer bytes)

-- what frames give, one after another: each is a payload in the state after those before it
abbrev pub frames_turn : ℕ → List ℕ → List ℕ → List (List ℕ) → State → Turn
frames_turn moment input peer [] s = []
frames_turn moment input peer (frame ∷ frames) s =
    payload_step moment input peer frame s ∷ frames_turn moment input peer frames (state_after s (payload_step moment input peer frame s).events)

-- a line of its own where a connection is closed
abbrev pub closed_turn : Bool → Turn
closed_turn false = []
closed_turn true = answered (arrival_words FrameTooLong) [] ∷ []

-- What a connection gives that was sent some bytes before and is sent these: the frames that end in these, and a line of
-- its own where a frame passes the limit.
abbrev pub sent_turn : ℕ → List ℕ → List ℕ → InputKind → List ℕ → List ℕ → State → Turn
sent_turn moment input peer kind before bytes s =
    frames_turn moment input peer (new_frames kind before bytes) s ++ closed_turn (is_closed kind (before ++ bytes))

-- a closed connection takes nothing
abbrev pub refused_turn : List ℕ → Turn
refused_turn [] = []
refused_turn (b ∷ bytes) = answered (codes "closed" ∷ []) [] ∷ []

-- what is sent to a connection that has begun gives
abbrev pub begun_turn : ℕ → List ℕ → List ℕ → Connection → List ℕ → State → Turn
begun_turn moment input peer c bytes s = if is_closed c.kind c.bytes then refused_turn bytes else sent_turn moment input peer c.kind c.bytes bytes s

-- what is sent to a connection gives, by the kind of its input, if there is such an input, and the connection, if it has begun
abbrev pub tcp_turn_by : Option InputKind → Option Connection → ℕ → List Connection → List ℕ → List ℕ → List ℕ → State → Turn
tcp_turn_by None begun moment cs input peer bytes s = answered (arrival_words UnknownInput) [] ∷ []
tcp_turn_by (Some kind) None moment cs input peer bytes s =
    if nat_le most_connections (length cs) then answered (codes "too-many-connections" ∷ []) [] ∷ [] else sent_turn moment input peer kind [] bytes s
tcp_turn_by (Some kind) (Some c) moment cs input peer bytes s = begun_turn moment input peer c bytes s

abbrev pub tcp_turn : ℕ → List Connection → List ℕ → ℕ → List ℕ → List ℕ → State → Turn
tcp_turn moment cs input number peer bytes s =
    tcp_turn_by (kind_of (config_after s.journal) input) (connection_of input number cs) moment cs input peer bytes s

-- what the end of a connection gives
abbrev pub end_turn_by : Option Connection → ℕ → List ℕ → State → Turn
end_turn_by None moment input s = []
end_turn_by (Some c) moment input s = frames_turn moment input c.peer (last_frame c.kind c.bytes) s

abbrev pub end_turn : ℕ → List Connection → List ℕ → ℕ → State → Turn
end_turn moment cs input number s = end_turn_by (connection_of input number cs) moment input s

-- what a line gives at this moment, with these connections, in this state; `refused` says whether the shop refused its pattern
abbrev pub turn_of : ℕ → List Connection → Bool → Line → State → Turn
turn_of moment cs refused Blank s = []
turn_of moment cs refused (At next) s = []
turn_of moment cs refused (Udp input peer payload) s = datagram_turn moment input peer payload s
turn_of moment cs refused (Tcp input number peer payload) s = tcp_turn moment cs input number peer payload s
turn_of moment cs refused (End input number) s = end_turn moment cs input number s
turn_of moment cs refused (Claim worker limit) s =
    answered (claim_words worker (claim_answer s worker limit)) (claimed_by worker (claim_answer s worker limit)) ∷ []
turn_of moment cs refused (Finish worker) s = answered (finish_words (finish_answer s worker)) (finish_events s worker) ∷ []
turn_of moment cs refused Listing s = listed s

-- the connections after something was sent
abbrev pub sent_connections : Option InputKind → Option Connection → List Connection → List ℕ → ℕ → List ℕ → List ℕ → List Connection
sent_connections None begun cs input number peer bytes = cs
sent_connections (Some kind) None cs input number peer bytes =
    if nat_le most_connections (length cs) then cs
    else cs ++ record { input = input; number = number; kind = kind; peer = peer; bytes = bytes } ∷ []
sent_connections (Some kind) (Some c) cs input number peer bytes = replaced (with_sent peer bytes c) cs

-- the connections after a line: known inputs are those of the state
abbrev pub connections_after : State → List Connection → Line → List Connection
connections_after s cs (Tcp input number peer payload) =
    sent_connections (kind_of (config_after s.journal) input) (connection_of input number cs) cs input number peer payload
connections_after s cs (End input number) = forgotten input number cs
connections_after s cs other = cs

abbrev pub turn_events : Turn → List Event
turn_events turn = flat_map (λ step. step.events) turn

abbrev pub turn_text : Turn → List ℕ
turn_text turn = flat_map (λ step. step.text) turn

abbrev pub first_refused : List Bool → Bool
first_refused [] = false
first_refused (refused ∷ more) = refused

-- what these lines give behind others; the marks say of which lines the shop refused a pattern, the rest being not refused
abbrev pub turns_of : List Line → List Connection → State → List Bool → List Line → List Turn
turns_of past cs s marks [] = []
turns_of past cs s marks (line ∷ lines) =
    turn_of (moment_after past) cs (first_refused marks) line s
    ∷ turns_of (past ++ line ∷ []) (connections_after s cs line)
    (state_after s (turn_events (turn_of (moment_after past) cs (first_refused marks) line s))) (drop 1 marks) lines

abbrev pub all_events : List Turn → List Event
all_events turns = flat_map turn_events turns

abbrev pub all_text : List Turn → List ℕ
all_text turns = flat_map turn_text turns

-- the last line
abbrev pub done_text : State → List ℕ
done_text s = words_text (codes "done" ∷ decimal (length s.journal) ∷ decimal (commit_count s) ∷ [])

-- what a script gives from this opening on
abbrev pub script_turns : Base → List Bool → List ℕ → List Turn
script_turns base marks script = turns_of [] [] (opened base) marks (lines_run (script_lines script))

abbrev pub last_state : Base → List Turn → State
last_state base turns = state_after (opened base) (all_events turns)

abbrev pub answers : Base → List Bool → List ℕ → List ℕ
answers base marks script = all_text (script_turns base marks script)

-- the whole output
abbrev pub output : Base → List Bool → List ℕ → List ℕ
output base marks script = answers base marks script ++ done_text (last_state base (script_turns base marks script))
