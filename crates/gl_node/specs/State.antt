-- The state of a node: one list of entries, the datagrams that may be chunks, and the ranges of positions that are claimed, came in and are committed.
use Rattle.std.specs.Prelude.{ℕ, ◌+◌, not, List, [], ◌∷◌, ◌++◌, length, drop, sum_by, filter, ◌==◌}
use Rattle.std.specs.List.{fold}
use Rattle.gl_fields.specs.declared.entry.Entry.{Entry}
use Rattle.gl_fields.specs.declared.entry.Outcome.{Outcome}
use Rattle.gl_fields.specs.Entries.{entry_bytes}
use Rattle.gl_node.specs.declared.mark.Mark.{Mark}
use Rattle.gl_node.specs.declared.mark.Claim.{Claim}
use Rattle.gl_node.specs.Decoding.{outcomes_after}
use Rattle.gl_gatelog.specs.Batch.{size as batch_size}

-- what stood at opening, and never changes
pub record Base : Type 0 where
  pub journal : List Entry
  pub found : List Outcome
  pub journal_bytes : ℕ
  pub index_bytes : ℕ
  pub journal_limit : ℕ
  pub index_limit : ℕ
  -- the segment sizes: recorded ones, or the one that was asked for where a log had no batch
  pub journal_segment : ℕ
  pub index_segment : ℕ

-- a datagram that came to an input of kind gelf, whose messages may come in chunks
pub record Datagram : Type 0 where
  pub input : List ℕ
  pub moment : ℕ
  pub bytes : List ℕ

pub record State : Type 0 where
  pub base : Base
  pub journal : List Entry
  -- the datagrams that came since opening to inputs of kind gelf, in order
  pub datagrams : List Datagram
  -- what is claimed, in the order of the claims
  pub held : List Claim
  -- what came in and isn't committed, in the order in which it came
  pub waiting : List Mark
  -- what was committed since opening, in order
  pub committed : List Mark

-- what can happen to a node
pub data Event : Type 0 where
  Received : (datagram : Datagram) → Event
  Added : (entry : Entry) → Event
  Claimed : (claim : Claim) → Event
  CameIn : (claim : Claim) → Event
  GivenUp : (claim : Claim) → Event
  Committed : (mark : Mark) → Event

abbrev pub opened : Base → State
opened base = record { base = base; journal = base.journal; datagrams = []; held = []; waiting = []; committed = [] }

-- the claims of other workers
abbrev pub without : ℕ → List Claim → List Claim
without worker held = filter (λ claim. not (claim.worker == worker)) held

-- the ranges that begin elsewhere
abbrev pub except : Mark → List Mark → List Mark
except mark marks = filter (λ other. not (other.first == mark.first)) marks

abbrev pub happened : State → Event → State
happened s (Received datagram) = record s { datagrams = s.datagrams ++ datagram ∷ [] }
happened s (Added entry) = record s { journal = s.journal ++ entry ∷ [] }
happened s (Claimed claim) = record s { held = s.held ++ claim ∷ [] }
happened s (CameIn claim) = record s { held = without claim.worker s.held; waiting = s.waiting ++ claim.mark ∷ [] }
happened s (GivenUp claim) = record s { held = without claim.worker s.held }
happened s (Committed mark) = record s { waiting = except mark s.waiting; committed = s.committed ++ mark ∷ [] }

-- the state after these events
abbrev pub state_after : State → List Event → State
state_after s events = fold happened s events

-- up to where the outcomes are committed
abbrev pub commit_count : State → ℕ
commit_count s = length s.base.found + sum_by (λ mark. mark.count) s.committed

-- the outcomes: those found at opening, and those of the later entries as far as committed
abbrev pub outcomes : State → List Outcome
outcomes s = outcomes_after s.base.found s.journal (commit_count s)

-- the journal's bytes: each entry that was added is a batch
abbrev pub entry_batch : Entry → ℕ
entry_batch entry = batch_size (entry_bytes entry ∷ [])

abbrev pub journal_size : State → ℕ
journal_size s = s.base.journal_bytes + sum_by entry_batch (drop (length s.base.journal) s.journal)
