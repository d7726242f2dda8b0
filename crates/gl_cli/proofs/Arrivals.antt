-- The journal after a script is what stood at opening and the script's arrivals, whatever processors do.
use Rattle.std.specs.Prelude.{◌≡◌, ℕ, zero, suc, ◌+◌, Bool, true, false, List, [], ◌∷◌, ◌++◌, length, drop, Option, Some, None, max, filter, map, nat_le, if◌then◌else◌, codes}
use Rattle.std.specs.List.{enumerate_from}
use Rattle.std.specs.Fmt.{decimal}
use Rattle.std.proofs.Common.{refl, ◌∙◌, ap, sym, append_assoc, append-nil, arith}
use Rattle.std.proofs.lemmas.List.{drop_at}
use Rattle.gl_fields.specs.declared.entry.Entry.{Entry}
use Rattle.gl_fields.specs.declared.entry.Outcome.{Outcome}
use Rattle.gl_fields.specs.declared.input_kind.InputKind.{InputKind}
use Rattle.gl_chunks.specs.declared.chunks.Chunked.{Chunked}
use Rattle.gl_chunks.specs.declared.chunks.Chunked.TheVariants as chunk
use Rattle.gl_chunks.specs.Chunks.{chunk_answer}
use Rattle.gl_node.specs.declared.answer.Arrival.{Arrival}
use Rattle.gl_node.specs.declared.answer.Arrival.TheVariants.{Journalled, Empty, Held as IsHeld, Repeat, BadChunk, CountMismatch, ChunkTableFull, FrameTooLong, UnknownInput, JournalFull}
use Rattle.gl_node.specs.Arrivals.{added_by, arrival_events, arrival_of, datagram_events, datagram_of, events_by, is_tabled, next_entry, sent_to}
use Rattle.gl_node.specs.declared.mark.Claim.{Claim as Held}
use Rattle.gl_node.specs.Claims.{ClaimAnswer, Granted, Nothing, Busy, claim_answer, claimed_by, committed_within, commits, fits, held_by, finished_by, finish_events, is_kept, next_ready}
use Rattle.gl_node.specs.Configuration.{config_after, kind_of}
use Rattle.gl_node.specs.State.{Base, State, Event, Received, Added, Claimed, CameIn, GivenUp, Committed, happened, opened, outcomes, state_after}
use Rattle.gl_cli.specs.declared.line.Line.{Line}
use Rattle.gl_cli.specs.declared.line.Line.TheVariants.{Blank, At, Udp, Tcp, End, Claim, Finish, Listing}
use Rattle.gl_cli.specs.Answers.{outcome_words}
use Rattle.gl_cli.specs.Arrivals.{Come, accepted, at_opening, brings_in, handed_on, journal_by, script_arrivals, with_datagram, with_end_of, with_line, with_lines, with_payload, with_payloads, with_sent_to}
use Rattle.gl_cli.specs.Connections.{Connection, connection_of, forgotten, is_closed, last_frame, most_connections, new_frames, replaced, with_sent}
use Rattle.gl_cli.specs.Runs.{Turn, all_events, answered, closed_turn, connections_after, datagram_turn, end_turn_by, frames_turn, last_state, refused_turn, script_turns, sent_connections, sent_turn, tcp_turn_by, turn_events, turn_of, turns_of}
use Rattle.gl_cli.specs.Script.{lines_run, moment_after, moment_in, script_lines}
use Rattle.gl_cli.proofs.Desks.{by_fit, by_ready}
use Rattle.gl_cli.proofs.Sessions.{moment_after-more, state_after-more}

-- what has come to a node in this state, beside these connections
abbrev come_to : State → List Connection → Come
come_to s cs = record { base = s.base; journal = s.journal; datagrams = s.datagrams; connections = cs }

-- ---- what comes in

nothing_added : (s : State) (cs : List Connection) → come_to s cs ≡ record (come_to s cs) { journal = s.journal ++ [] }
nothing_added s cs = ap (λ (j : List Entry). record (come_to s cs) { journal = j }) (sym (append-nil s.journal))

added_is : (s : State) (cs : List Connection) (arrival : Arrival) (entry : Entry)
    → come_to (state_after s (added_by arrival entry)) cs ≡ record (come_to s cs) { journal = s.journal ++ accepted arrival entry }
added_is s cs (Journalled position) entry = refl
added_is s cs Empty entry = nothing_added s cs
added_is s cs IsHeld entry = nothing_added s cs
added_is s cs Repeat entry = nothing_added s cs
added_is s cs BadChunk entry = nothing_added s cs
added_is s cs (CountMismatch kept given) entry = nothing_added s cs
added_is s cs ChunkTableFull entry = nothing_added s cs
added_is s cs FrameTooLong entry = nothing_added s cs
added_is s cs UnknownInput entry = nothing_added s cs
added_is s cs (JournalFull bytes limit) entry = nothing_added s cs

payload_comes : (moment : ℕ) (input peer payload : List ℕ) (s : State) (cs : List Connection)
    → come_to (state_after s (arrival_events s moment input peer payload)) cs ≡ with_payload moment input peer (come_to s cs) payload
payload_comes moment input peer payload s cs = added_is s cs (arrival_of s moment input peer payload) (next_entry s.journal moment input peer payload)

frames_come : (moment : ℕ) (input peer : List ℕ) (frames : List (List ℕ)) (s : State) (cs : List Connection)
    → come_to (state_after s (turn_events (frames_turn moment input peer frames s))) cs ≡ with_payloads moment input peer frames (come_to s cs)
frames_come moment input peer [] s cs = refl
frames_come moment input peer (frame ∷ frames) s cs =
    let events : List Event = arrival_events s moment input peer frame in
    let after : State = state_after s events in
    ap (λ (q : State). come_to q cs) (sym (state_after-more s events (turn_events (frames_turn moment input peer frames after))))
    ∙ frames_come moment input peer frames after cs
    ∙ ap (λ (come : Come). with_payloads moment input peer frames come) (payload_comes moment input peer frame s cs)

-- that a connection is closed is no event
closing_events : (b : Bool) (turn : Turn) → turn_events (turn ++ closed_turn b) ≡ turn_events turn
closing_events false [] = refl
closing_events true [] = refl
closing_events b (step ∷ turn) = ap (λ (events : List Event). step.events ++ events) (closing_events b turn)

sent_comes : (moment : ℕ) (input peer : List ℕ) (kind : InputKind) (before bytes : List ℕ) (s : State) (cs : List Connection)
    → come_to (state_after s (turn_events (sent_turn moment input peer kind before bytes s))) cs ≡ with_payloads moment input peer (new_frames kind before bytes) (come_to s cs)
sent_comes moment input peer kind before bytes s cs =
    ap (λ (events : List Event). come_to (state_after s events) cs)
    (closing_events (is_closed kind (before ++ bytes)) (frames_turn moment input peer (new_frames kind before bytes) s))
    ∙ frames_come moment input peer (new_frames kind before bytes) s cs

-- to a connection that begins, unless it is one too many
begun_comes : (full : Bool) (moment : ℕ) (input peer : List ℕ) (kind : InputKind) (bytes : List ℕ) (s : State) (cs : List Connection)
    → come_to (state_after s (turn_events (if full then answered (codes "too-many-connections" ∷ []) [] ∷ [] else sent_turn moment input peer kind [] bytes s))) cs
    ≡ with_payloads moment input peer (if full then [] else new_frames kind [] bytes) (come_to s cs)
begun_comes true moment input peer kind bytes s cs = refl
begun_comes false moment input peer kind bytes s cs = sent_comes moment input peer kind [] bytes s cs

refused_events : (bytes : List ℕ) → turn_events (refused_turn bytes) ≡ []
refused_events [] = refl
refused_events (b ∷ bytes) = refl

-- to one that has begun, unless it is closed
more_comes : (closed : Bool) (moment : ℕ) (input peer : List ℕ) (kind : InputKind) (before bytes : List ℕ) (s : State) (cs : List Connection)
    → come_to (state_after s (turn_events (if closed then refused_turn bytes else sent_turn moment input peer kind before bytes s))) cs
    ≡ with_payloads moment input peer (if closed then [] else new_frames kind before bytes) (come_to s cs)
more_comes true moment input peer kind before bytes s cs = ap (λ (events : List Event). come_to (state_after s events) cs) (refused_events bytes)
more_comes false moment input peer kind before bytes s cs = sent_comes moment input peer kind before bytes s cs

tcp_comes : (kind : Option InputKind) (begun : Option Connection) (moment : ℕ) (input : List ℕ) (number : ℕ) (peer bytes : List ℕ) (s : State) (cs : List Connection)
    → come_to (state_after s (turn_events (tcp_turn_by kind begun moment cs input peer bytes s))) (sent_connections kind begun cs input number peer bytes)
    ≡ with_sent_to moment kind begun input number peer bytes (come_to s cs)
tcp_comes None begun moment input number peer bytes s cs = refl
tcp_comes (Some kind) None moment input number peer bytes s cs =
    begun_comes (nat_le most_connections (length cs)) moment input peer kind bytes s (sent_connections (Some kind) None cs input number peer bytes)
tcp_comes (Some kind) (Some c) moment input number peer bytes s cs =
    more_comes (is_closed c.kind c.bytes) moment input peer c.kind c.bytes bytes s (replaced (with_sent peer bytes c) cs)

end_comes : (begun : Option Connection) (moment : ℕ) (input : List ℕ) (s : State) (cs : List Connection)
    → come_to (state_after s (turn_events (end_turn_by begun moment input s))) cs ≡ with_end_of moment input begun (come_to s cs)
end_comes None moment input s cs = refl
end_comes (Some c) moment input s cs = frames_come moment input c.peer (last_frame c.kind c.bytes) s cs

-- a datagram that its table has now, by the table's answer
tabled_comes : (answer : Chunked) (moment : ℕ) (input peer bytes : List ℕ) (s : State) (cs : List Connection)
    → come_to (state_after s (Received (datagram_of moment input bytes) ∷ events_by answer s moment input peer bytes)) cs
    ≡ with_payloads moment input peer (handed_on answer bytes) (come_to (happened s (Received (datagram_of moment input bytes))) cs)
tabled_comes chunk.Plain moment input peer bytes s cs = payload_comes moment input peer bytes (happened s (Received (datagram_of moment input bytes))) cs
tabled_comes (chunk.Whole payload) moment input peer bytes s cs = payload_comes moment input peer payload (happened s (Received (datagram_of moment input bytes))) cs
tabled_comes chunk.Held moment input peer bytes s cs = refl
tabled_comes chunk.Repeat moment input peer bytes s cs = refl
tabled_comes chunk.BadChunk moment input peer bytes s cs = refl
tabled_comes (chunk.CountMismatch kept given) moment input peer bytes s cs = refl
tabled_comes chunk.ChunkTableFull moment input peer bytes s cs = refl
tabled_comes chunk.TooLong moment input peer bytes s cs = refl

datagram_by : (tabled : Bool) (answer : Chunked) (moment : ℕ) (input peer bytes : List ℕ) (s : State) (cs : List Connection)
    → come_to (state_after s (if tabled then Received (datagram_of moment input bytes) ∷ events_by answer s moment input peer bytes else arrival_events s moment input peer bytes)) cs
    ≡ (if tabled then with_payloads moment input peer (handed_on answer bytes) (come_to (happened s (Received (datagram_of moment input bytes))) cs)
    else with_payload moment input peer (come_to s cs) bytes)
datagram_by true answer moment input peer bytes s cs = tabled_comes answer moment input peer bytes s cs
datagram_by false answer moment input peer bytes s cs = payload_comes moment input peer bytes s cs

datagram_comes : (moment : ℕ) (input peer bytes : List ℕ) (s : State) (cs : List Connection)
    → come_to (state_after s (turn_events (datagram_turn moment input peer bytes s))) cs ≡ with_datagram moment input peer bytes (come_to s cs)
datagram_comes moment input peer bytes s cs =
    ap (λ (events : List Event). come_to (state_after s events) cs) (append-nil (datagram_events s moment input peer bytes))
    ∙ datagram_by (is_tabled s input bytes) (chunk_answer (sent_to input s.datagrams) moment bytes) moment input peer bytes s cs

-- ---- what processors do brings nothing in

-- the state without its claims and commits
abbrev core : State → State
core s = record { base = s.base; journal = s.journal; datagrams = s.datagrams; held = []; waiting = []; committed = [] }

claim_leaves : (s : State) (worker : ℕ) (answer : ClaimAnswer) → core (state_after s (claimed_by worker answer)) ≡ core s
claim_leaves s worker (Granted mark) = refl
claim_leaves s worker Nothing = refl
claim_leaves s worker (Busy mark) = refl

commits_leave : (n : ℕ) (s : State) → core (state_after s (committed_within n s)) ≡ core s
commits_leave zero s = refl
commits_leave (suc n) s = elim (next_ready s) as (λ o. core (state_after s (by_ready n s o)) ≡ core s) [
  | None ↦ refl
  | Some mark ↦ elim (fits s mark) as (λ b. core (state_after s (by_fit n s mark b)) ≡ core s) [
    | false ↦ refl
    | true ↦ commits_leave n (happened s (Committed mark))
  ]
]

finish_leaves : (s : State) (held : Option Held) → core (state_after s (finished_by s held)) ≡ core s
finish_leaves s None = refl
finish_leaves s (Some claim) =
    let came : State = happened s (CameIn claim) in
    elim (is_kept came claim.mark) as (λ b. core (state_after came (if b then [] else commits came)) ≡ core s) [
      | true ↦ refl
      | false ↦ commits_leave (length came.waiting) came
    ]

listing_events : (n : ℕ) (found : List Outcome) → turn_events (map (λ item. answered (decimal item.0 ∷ outcome_words item.1) []) (enumerate_from n found)) ≡ []
listing_events n [] = refl
listing_events n (outcome ∷ found) = listing_events (n + 1) found

-- a line that brings nothing in
abbrev BringsNothing : Line → Type 0
BringsNothing line = (moment : ℕ) (cs : List Connection) (s : State) → core (state_after s (turn_events (turn_of moment cs false line s))) ≡ core s

claim_brings : (worker limit : ℕ) → BringsNothing (Claim worker limit)
claim_brings worker limit moment cs s =
    ap (λ (es : List Event). core (state_after s es)) (append-nil (claimed_by worker (claim_answer s worker limit))) ∙ claim_leaves s worker (claim_answer s worker limit)

finish_brings : (worker : ℕ) → BringsNothing (Finish worker)
finish_brings worker moment cs s =
    ap (λ (es : List Event). core (state_after s es)) (append-nil (finish_events s worker)) ∙ finish_leaves s (held_by s worker)

listing_brings : BringsNothing Listing
listing_brings moment cs s = ap (λ (es : List Event). core (state_after s es)) (listing_events 0 (outcomes s))

-- ---- a line, and lines

line_comes : (moment : ℕ) (cs : List Connection) (line : Line) (s : State)
    → come_to (state_after s (turn_events (turn_of moment cs false line s))) (connections_after s cs line) ≡ with_line moment line (come_to s cs)
line_comes moment cs Blank s = refl
line_comes moment cs (At next) s = refl
line_comes moment cs (Udp input peer payload) s = datagram_comes moment input peer payload s cs
line_comes moment cs (Tcp input number peer payload) s =
    tcp_comes (kind_of (config_after s.journal) input) (connection_of input number cs) moment input number peer payload s cs
line_comes moment cs (End input number) s = end_comes (connection_of input number cs) moment input s (forgotten input number cs)
line_comes moment cs (Claim worker limit) s = ap (λ (q : State). come_to q cs) (claim_brings worker limit moment cs s)
line_comes moment cs (Finish worker) s = ap (λ (q : State). come_to q cs) (finish_brings worker moment cs s)
line_comes moment cs Listing s = ap (λ (q : State). come_to q cs) (listing_brings moment cs s)

lines_come : (past : List Line) (cs : List Connection) (s : State) (lines : List Line)
    → (state_after s (all_events (turns_of past cs s [] lines))).journal ≡ (with_lines (moment_after past) lines (come_to s cs)).journal
lines_come past cs s [] = refl
lines_come past cs s (line ∷ lines) =
    let moment : ℕ = moment_after past in
    let events : List Event = turn_events (turn_of moment cs false line s) in
    let after : State = state_after s events in
    let now : List Connection = connections_after s cs line in
    ap (λ (q : State). q.journal) (sym (state_after-more s events (all_events (turns_of (past ++ line ∷ []) now after [] lines))))
    ∙ lines_come (past ++ line ∷ []) now after lines
    ∙ ap (λ (m : ℕ). (with_lines m lines (come_to after now)).journal) (moment_after-more past line)
    ∙ ap (λ (come : Come). (with_lines (max moment (moment_in line)) lines come).journal) (line_comes moment cs line s)

pub lines_law : (base : Base) (lines : List Line) → (last_state base (turns_of [] [] (opened base) [] lines)).journal ≡ journal_by base lines
lines_law base lines = lines_come [] [] (opened base) lines

-- a line that brings nothing in plays no part
same_moment : (m : ℕ) → m ≡ max m 0
same_moment m = grind arith

workers : (moment : ℕ) (lines : List Line) (come : Come) → with_lines moment (filter brings_in lines) come ≡ with_lines moment lines come
workers moment [] come = refl
workers moment (Blank ∷ lines) come = workers moment lines come ∙ ap (λ (m : ℕ). with_lines m lines come) (same_moment moment)
workers moment (At next ∷ lines) come = workers (max moment next) lines come
workers moment (Udp input peer payload ∷ lines) come = workers (max moment 0) lines (with_line moment (Udp input peer payload) come)
workers moment (Tcp input number peer payload ∷ lines) come = workers (max moment 0) lines (with_line moment (Tcp input number peer payload) come)
workers moment (End input number ∷ lines) come = workers (max moment 0) lines (with_line moment (End input number) come)
workers moment (Claim worker limit ∷ lines) come = workers moment lines come ∙ ap (λ (m : ℕ). with_lines m lines come) (same_moment moment)
workers moment (Finish worker ∷ lines) come = workers moment lines come ∙ ap (λ (m : ℕ). with_lines m lines come) (same_moment moment)
workers moment (Listing ∷ lines) come = workers moment lines come ∙ ap (λ (m : ℕ). with_lines m lines come) (same_moment moment)

pub workers_law : (base : Base) (lines : List Line) → journal_by base (filter brings_in lines) ≡ journal_by base lines
workers_law base lines = ap (λ (come : Come). come.journal) (workers 0 lines (at_opening base))

-- ---- a journal grows at most

abbrev Grows : List Event → State → Type 0
Grows events s = (more : List Entry) × ((state_after s events).journal ≡ s.journal ++ more)

grown_by : (s : State) (event : Event) (events : List Event) → ((t : State) → Grows events t) → Grows (event ∷ events) s
grown_by s (Received datagram) events rest = rest (happened s (Received datagram))
grown_by s (Added entry) events rest =
    let after = rest (happened s (Added entry)) in (entry ∷ after.0, after.1 ∙ append_assoc s.journal (entry ∷ []) after.0)
grown_by s (Claimed claim) events rest = rest (happened s (Claimed claim))
grown_by s (CameIn claim) events rest = rest (happened s (CameIn claim))
grown_by s (GivenUp claim) events rest = rest (happened s (GivenUp claim))
grown_by s (Committed mark) events rest = rest (happened s (Committed mark))

grown : (events : List Event) (s : State) → Grows events s
grown [] s = ([], sym (append-nil s.journal))
grown (event ∷ events) s = grown_by s event events (λ t. grown events t)

pub journal_law : (base : Base) (script : List ℕ) → (last_state base (script_turns base [] script)).journal ≡ base.journal ++ script_arrivals base script
journal_law base script =
    let lines : List Line = lines_run (script_lines script) in
    let g : (more : List Entry) × ((last_state base (script_turns base [] script)).journal ≡ base.journal ++ more)
    = grown (all_events (script_turns base [] script)) (opened base) in
    g.1 ∙ ap (λ (more : List Entry). base.journal ++ more)
    (sym (drop_at base.journal g.0 (length base.journal) refl) ∙ ap (λ (j : List Entry). drop (length base.journal) j) (sym g.1 ∙ lines_law base lines))
