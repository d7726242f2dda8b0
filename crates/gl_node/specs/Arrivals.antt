-- What becomes of a payload.
use Rattle.std.specs.Prelude.{ℕ, ◌+◌, Bool, true, false, not, ◌&&◌, List, [], ◌∷◌, length, map, filter, nat_lt, ◌==◌, if◌then◌else◌, Option, Some, None}
use Rattle.std.specs.Str.{bytes_eq}
use Rattle.gl_fields.specs.declared.entry.Entry.{Entry}
use Rattle.gl_fields.specs.declared.entry.Entry.TheVariants.{Message}
use Rattle.gl_fields.specs.declared.input_kind.InputKind.{InputKind}
use Rattle.gl_fields.specs.declared.input_kind.InputKind.TheVariants.{Raw, Gelf, Syslog}
use Rattle.gl_fields.specs.Entries.{version_after}
use Rattle.gl_chunks.specs.declared.chunks.Chunked.{Chunked}
use Rattle.gl_chunks.specs.declared.chunks.Chunked.TheVariants as chunk
use Rattle.gl_chunks.specs.Chunks.{chunk_answer}
use Rattle.gl_node.specs.declared.answer.Arrival.{Arrival}
use Rattle.gl_node.specs.declared.answer.Arrival.TheVariants.{Journalled, Empty, Held, Repeat, BadChunk, CountMismatch, ChunkTableFull, FrameTooLong, UnknownInput, JournalFull}
use Rattle.gl_node.specs.Configuration.{config_after, is_input, kind_of}
use Rattle.gl_node.specs.State.{Datagram, State, Event, Added, Received, entry_batch, journal_size}

-- a payload as the next entry of this journal
abbrev pub next_entry : List Entry → ℕ → List ℕ → List ℕ → List ℕ → Entry
next_entry journal moment input peer bytes =
    Message (record { input = input; peer = peer; origin = None; moment = moment; version = version_after journal; bytes = bytes })

-- the answer to a payload, in the order of the refusals
abbrev pub arrival_of : State → ℕ → List ℕ → List ℕ → List ℕ → Arrival
arrival_of s moment input peer bytes =
    if not (is_input (config_after s.journal) input) then UnknownInput
    else (if length bytes == 0 then Empty
    else (if nat_lt 1048576 (length bytes) then FrameTooLong
    else (if nat_lt s.base.journal_limit (journal_size s + entry_batch (next_entry s.journal moment input peer bytes))
    then JournalFull (journal_size s) s.base.journal_limit
    else Journalled (length s.journal))))

-- the entry that an answer tells of
abbrev pub added_by : Arrival → Entry → List Event
added_by (Journalled position) entry = Added entry ∷ []
added_by Empty entry = []
added_by Held entry = []
added_by Repeat entry = []
added_by BadChunk entry = []
added_by (CountMismatch kept given) entry = []
added_by ChunkTableFull entry = []
added_by FrameTooLong entry = []
added_by UnknownInput entry = []
added_by (JournalFull bytes limit) entry = []

abbrev pub arrival_events : State → ℕ → List ℕ → List ℕ → List ℕ → List Event
arrival_events s moment input peer bytes =
    added_by (arrival_of s moment input peer bytes) (next_entry s.journal moment input peer bytes)

-- ---- datagrams, which may be chunks of a message

abbrev pub takes_chunks : Option InputKind → Bool
takes_chunks None = false
takes_chunks (Some Raw) = false
takes_chunks (Some Gelf) = true
takes_chunks (Some Syslog) = false

-- whether a datagram goes to the chunk table of its input: the input is of kind gelf, and the datagram isn't empty
abbrev pub is_tabled : State → List ℕ → List ℕ → Bool
is_tabled s input bytes = takes_chunks (kind_of (config_after s.journal) input) && not (length bytes == 0)

-- the datagrams that came to an input, each with its moment
abbrev pub sent_to : List ℕ → List Datagram → List (ℕ × List ℕ)
sent_to input datagrams = map {B = ℕ × List ℕ} (λ d. (d.moment, d.bytes)) (filter (λ d. bytes_eq d.input input) datagrams)

-- what becomes of a datagram that its table answered so: one that is no chunk is a payload, and so is a message that it made whole
abbrev pub arrival_by : Chunked → State → ℕ → List ℕ → List ℕ → List ℕ → Arrival
arrival_by chunk.Plain s moment input peer bytes = arrival_of s moment input peer bytes
arrival_by (chunk.Whole payload) s moment input peer bytes = arrival_of s moment input peer payload
arrival_by chunk.Held s moment input peer bytes = Held
arrival_by chunk.Repeat s moment input peer bytes = Repeat
arrival_by chunk.BadChunk s moment input peer bytes = BadChunk
arrival_by (chunk.CountMismatch kept given) s moment input peer bytes = CountMismatch kept given
arrival_by chunk.ChunkTableFull s moment input peer bytes = ChunkTableFull
arrival_by chunk.TooLong s moment input peer bytes = FrameTooLong

abbrev pub events_by : Chunked → State → ℕ → List ℕ → List ℕ → List ℕ → List Event
events_by chunk.Plain s moment input peer bytes = arrival_events s moment input peer bytes
events_by (chunk.Whole payload) s moment input peer bytes = arrival_events s moment input peer payload
events_by other s moment input peer bytes = []

abbrev pub datagram_of : ℕ → List ℕ → List ℕ → Datagram
datagram_of moment input bytes = record { input = input; moment = moment; bytes = bytes }

-- the answer to a datagram
abbrev pub datagram_answer : State → ℕ → List ℕ → List ℕ → List ℕ → Arrival
datagram_answer s moment input peer bytes =
    if is_tabled s input bytes
    then arrival_by (chunk_answer (sent_to input s.datagrams) moment bytes) s moment input peer bytes
    else arrival_of s moment input peer bytes

-- what happens by a datagram: its table has it, and then its payload, if there is one, is an entry
abbrev pub datagram_events : State → ℕ → List ℕ → List ℕ → List ℕ → List Event
datagram_events s moment input peer bytes =
    if is_tabled s input bytes
    then Received (datagram_of moment input bytes) ∷ events_by (chunk_answer (sent_to input s.datagrams) moment bytes) s moment input peer bytes
    else arrival_events s moment input peer bytes
