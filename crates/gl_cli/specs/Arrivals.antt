-- What a script brings in: a function of its lines alone and of what stood at opening. No processor plays a part in it.
use Rattle.std.specs.Prelude.{ℕ, Bool, true, false, List, [], ◌∷◌, ◌++◌, length, drop, max, nat_le, Option, Some, None, if◌then◌else◌}
use Rattle.std.specs.List.{fold}
use Rattle.gl_fields.specs.declared.entry.Entry.{Entry}
use Rattle.gl_fields.specs.declared.input_kind.InputKind.{InputKind}
use Rattle.gl_chunks.specs.declared.chunks.Chunked.{Chunked}
use Rattle.gl_chunks.specs.declared.chunks.Chunked.TheVariants as chunk
use Rattle.gl_chunks.specs.Chunks.{chunk_answer}
use Rattle.gl_node.specs.declared.answer.Arrival.{Arrival}
use Rattle.gl_node.specs.declared.answer.Arrival.TheVariants.{Journalled}
use Rattle.gl_node.specs.Arrivals.{arrival_of, datagram_of, is_tabled, next_entry, sent_to}
use Rattle.gl_node.specs.Configuration.{config_after, kind_of}
use Rattle.gl_node.specs.State.{Base, Datagram, State, opened}
use Rattle.gl_cli.specs.declared.line.Line.{Line}
use Rattle.gl_cli.specs.declared.line.Line.TheVariants.{Blank, At, Udp, Tcp, End, Claim, Finish, Listing}
use Rattle.gl_cli.specs.Connections.{Connection, connection_of, forgotten, is_closed, last_frame, most_connections, new_frames}
use Rattle.gl_cli.specs.Runs.{sent_connections}
use Rattle.gl_cli.specs.Script.{lines_run, moment_in, script_lines}

-- what has come in, beside what stood at opening: the journal, the datagrams that may be chunks, and what was sent to connections
pub record Come : Type 0 where
  pub base : Base
  pub journal : List Entry
  pub datagrams : List Datagram
  pub connections : List Connection

abbrev pub at_opening : Base → Come
at_opening base = record { base = base; journal = base.journal; datagrams = []; connections = [] }

-- a node to which this has come, and whose processors did nothing
abbrev pub idle_node : Come → State
idle_node come = record (opened come.base) { journal = come.journal; datagrams = come.datagrams }

-- a payload that isn't refused is one entry
abbrev pub accepted : Arrival → Entry → List Entry
accepted (Journalled position) entry = entry ∷ []
accepted other entry = []

abbrev pub with_payload : ℕ → List ℕ → List ℕ → Come → List ℕ → Come
with_payload moment input peer come payload = record come {
  journal = come.journal ++ accepted (arrival_of (idle_node come) moment input peer payload) (next_entry come.journal moment input peer payload);
}

-- payloads, one behind another
abbrev pub with_payloads : ℕ → List ℕ → List ℕ → List (List ℕ) → Come → Come
with_payloads moment input peer payloads come = fold (with_payload moment input peer) come payloads

-- what a chunk table hands on: a datagram that is no chunk, or the message that a chunk made whole
abbrev pub handed_on : Chunked → List ℕ → List (List ℕ)
handed_on chunk.Plain bytes = bytes ∷ []
handed_on (chunk.Whole payload) bytes = payload ∷ []
handed_on other bytes = []

-- a datagram: where its input has a chunk table, that has it from now on, and hands on what it makes of it
abbrev pub with_datagram : ℕ → List ℕ → List ℕ → List ℕ → Come → Come
with_datagram moment input peer bytes come =
    if is_tabled (idle_node come) input bytes
    then with_payloads moment input peer (handed_on (chunk_answer (sent_to input come.datagrams) moment bytes) bytes)
    (record come { datagrams = come.datagrams ++ datagram_of moment input bytes ∷ [] })
    else with_payload moment input peer come bytes

-- The frames that end in what is sent to a connection. There are none where the input isn't there, where it would be a
-- connection too many, and where a frame was too long.
abbrev pub frames_sent : Option InputKind → Option Connection → List Connection → List ℕ → List (List ℕ)
frames_sent None begun cs bytes = []
frames_sent (Some kind) None cs bytes = if nat_le most_connections (length cs) then [] else new_frames kind [] bytes
frames_sent (Some kind) (Some c) cs bytes = if is_closed c.kind c.bytes then [] else new_frames c.kind c.bytes bytes

-- what is sent to a connection, by the kind of its input, if there is such an input, and the connection, if it has begun
abbrev pub with_sent_to : ℕ → Option InputKind → Option Connection → List ℕ → ℕ → List ℕ → List ℕ → Come → Come
with_sent_to moment kind begun input number peer bytes come =
    with_payloads moment input peer (frames_sent kind begun come.connections bytes)
    (record come { connections = sent_connections kind begun come.connections input number peer bytes })

-- the end of a connection, if it has begun: the frame that it ends has the peer of the last line that sent something
abbrev pub with_end_of : ℕ → List ℕ → Option Connection → Come → Come
with_end_of moment input None come = come
with_end_of moment input (Some c) come = with_payloads moment input c.peer (last_frame c.kind c.bytes) come

-- a line at this moment
abbrev pub with_line : ℕ → Line → Come → Come
with_line moment Blank come = come
with_line moment (At next) come = come
with_line moment (Udp input peer payload) come = with_datagram moment input peer payload come
with_line moment (Tcp input number peer payload) come =
    with_sent_to moment (kind_of (config_after come.journal) input) (connection_of input number come.connections) input number peer payload come
with_line moment (End input number) come =
    with_end_of moment input (connection_of input number come.connections) (record come { connections = forgotten input number come.connections })
with_line moment (Claim worker limit) come = come
with_line moment (Finish worker) come = come
with_line moment Listing come = come

-- lines, one behind another, from this moment on
abbrev pub with_lines : ℕ → List Line → Come → Come
with_lines moment [] come = come
with_lines moment (line ∷ lines) come = with_lines (max moment (moment_in line)) lines (with_line moment line come)

-- the journal that lines make of the one at opening
abbrev pub journal_by : Base → List Line → List Entry
journal_by base lines = (with_lines 0 lines (at_opening base)).journal

-- the entries that a script adds
abbrev pub script_arrivals : Base → List ℕ → List Entry
script_arrivals base script = drop (length base.journal) (journal_by base (lines_run (script_lines script)))

-- the lines by which something arrives or time goes on: what processors do, and what is looked at, plays no part
abbrev pub brings_in : Line → Bool
brings_in Blank = false
brings_in (At next) = true
brings_in (Udp input peer payload) = true
brings_in (Tcp input number peer payload) = true
brings_in (End input number) = true
brings_in (Claim worker limit) = false
brings_in (Finish worker) = false
brings_in Listing = false
