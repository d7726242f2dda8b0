-- What a chunk table makes of a datagram, before its payload is looked at.
use Rattle.std.specs.Prelude.{◌≡◌, ◌⊎◌, ℕ, List, [], ◌∷◌, ◌++◌, true}
use Rattle.gl_chunks.specs.declared.chunks.Chunked.{Chunked}
use Rattle.gl_chunks.specs.declared.chunks.Chunked.TheVariants as chunk
use Rattle.gl_node.specs.declared.answer.Arrival.{Arrival}
use Rattle.gl_node.specs.declared.answer.Arrival.TheVariants.{Held, Repeat, BadChunk, CountMismatch, ChunkTableFull, FrameTooLong}
use Rattle.gl_node.specs.declared.arriving.Taken.{Taken}
use Rattle.gl_node.specs.declared.arriving.Taken.TheVariants.{Payload, Message, Answered}
use Rattle.gl_node.specs.declared.node.Node.{Node}
use Rattle.gl_node.specs.Arrivals.{arrival_of, arrival_events, datagram_answer, datagram_events, datagram_of, is_tabled}
use Rattle.gl_node.specs.Node.{Keeps}
use Rattle.gl_node.specs.State.{State, Event, Received, state_after}

abbrev pub taken_of : Chunked → Taken
taken_of chunk.Plain = Payload
taken_of (chunk.Whole message) = Message message
taken_of chunk.Held = Answered Held
taken_of chunk.Repeat = Answered Repeat
taken_of chunk.BadChunk = Answered BadChunk
taken_of (chunk.CountMismatch kept given) = Answered (CountMismatch kept given)
taken_of chunk.ChunkTableFull = Answered ChunkTableFull
taken_of chunk.TooLong = Answered FrameTooLong

-- the answer to it, and what happens then
abbrev pub arrival_after : Taken → State → ℕ → List ℕ → List ℕ → List ℕ → Arrival
arrival_after Payload s moment input peer bytes = arrival_of s moment input peer bytes
arrival_after (Message message) s moment input peer bytes = arrival_of s moment input peer message
arrival_after (Answered arrival) s moment input peer bytes = arrival

abbrev pub events_after : Taken → State → ℕ → List ℕ → List ℕ → List ℕ → List Event
events_after Payload s moment input peer bytes = arrival_events s moment input peer bytes
events_after (Message message) s moment input peer bytes = arrival_events s moment input peer message
events_after (Answered arrival) s moment input peer bytes = []

-- A table has the datagram, or none has: the node keeps the state after that, from which its payload goes on.
pub record IsTaken (s : State) (node : Node) (moment : ℕ) (input peer bytes : List ℕ) (taken : Taken) : Type 0 where
  pub first : List Event
  pub tabled : (first ≡ []) ⊎ ((is_tabled s input bytes ≡ true) × (first ≡ Received (datagram_of moment input bytes) ∷ []))
  pub keeps : Keeps node (state_after s first)
  pub answer : datagram_answer s moment input peer bytes ≡ arrival_after taken (state_after s first) moment input peer bytes
  pub events : datagram_events s moment input peer bytes ≡ first ++ events_after taken (state_after s first) moment input peer bytes
