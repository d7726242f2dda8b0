-- What a node keeps of a state, and what it stands on.
use Rattle.std.specs.Prelude.{◌≡◌, ℕ, ◌+◌, ◌<◌, ◌≤◌, Bool, List, length, map, Option, Some, None, false, ◌&&◌, nat_le, nat_lt, ◌==◌, if◌then◌else◌, count_by, slice_get, vec_capacity}
use Rattle.std.specs.List.{All}
use Rattle.gl_outside.specs.Disk.{DiskState}
use Rattle.gl_gatelog.specs.declared.kind.Log.{Log}
use Rattle.gl_gatelog.specs.declared.kind.Log.TheVariants.{Journal, Index}
use Rattle.gl_gatelog.specs.Batch.{Batch}
use Rattle.gl_gatelog.specs.Log.{records_of}
use Rattle.gl_gatelog.specs.Stand.{StandsOn, IsReady}
use Rattle.gl_gatelog.specs.View.{GateView}
use Rattle.gl_fields.specs.declared.entry.Entry.{Entry}
use Rattle.gl_fields.specs.declared.entry.Outcome.{Outcome}
use Rattle.gl_fields.specs.Entries.{entry_bytes}
use Rattle.gl_fields.specs.Outcomes.{outcome_bytes}
use Rattle.gl_fields.specs.Bounds.{IsOutcome}
use Rattle.gl_chunks.specs.declared.chunks.Chunks.{Chunks}
use Rattle.gl_chunks.specs.Chunks.{StandsFor}
use Rattle.gl_node.specs.declared.config.Input.{Input}
use Rattle.gl_node.specs.declared.mark.Mark.{Mark}
use Rattle.gl_node.specs.declared.mark.Claim.{Claim}
use Rattle.gl_node.specs.declared.work.Work.{Work}
use Rattle.gl_node.specs.declared.node.Node.{Node}
use Rattle.gl_node.specs.Configuration.{config_after}
use Rattle.gl_node.specs.Standing.{IsLawful}
use Rattle.gl_node.specs.Arrivals.{sent_to}
use Rattle.gl_node.specs.State.{Datagram, State, outcomes, journal_size, commit_count}
use Rattle.gl_node.specs.Claims.{index_size, lies_in, range_of, mark_of}

-- no disk fault has stopped it; or one did, when the disk's count came to this number
abbrev pub stopped_of : Node → Option ℕ
stopped_of node = node.stopped

abbrev pub IsRunning : Node → Type 0
IsRunning node = stopped_of node ≡ None

abbrev pub IsStoppedAt : Node → ℕ → Type 0
IsStoppedAt node faults = stopped_of node ≡ Some faults

-- what the value of a log keeps: which log it is, how many records and bytes it has, its limit and its segment size
pub record KeepsLog (view : GateView) (log : Log) (records bytes limit segment_size : ℕ) : Type 0 where
  pub log_is : view.log ≡ log
  pub records_are : length view.places ≡ records
  pub bytes_are : view.bytes ≡ bytes
  pub limit_is : view.limit ≡ limit
  pub segment_is : view.segment_size ≡ segment_size

-- in how many of the ranges that are held or came in a position lies
abbrev pub times_taken : State → ℕ → ℕ
times_taken s position = count_by (λ claim. lies_in position claim.mark) s.held + count_by (lies_in position) s.waiting

abbrev pub lies_between : ℕ → ℕ → ℕ → Bool
lies_between from to position = nat_le from position && nat_lt position to

-- a range has some positions, and no more than a batch of the index log takes
abbrev pub IsSized : Mark → Type 0
IsSized mark = (0 < mark.count) × (mark.count ≤ 256)

-- The ranges that are held or came in tile what lies between the commit count and `next`: each position there lies in
-- exactly one of them, and no other position in any. A worker holds one at most. From `next` on each position of the
-- journal is free.
pub record AreTiled (s : State) (next : ℕ) : Type 0 where
  pub committed : commit_count s ≤ next
  pub within : next ≤ length s.journal
  pub once : (position : ℕ) → times_taken s position ≡ (if lies_between (commit_count s) next position then 1 else 0)
  pub held_sized : All (λ (c : Claim). IsSized c.mark) s.held
  pub waiting_sized : All IsSized s.waiting
  pub workers : (worker : ℕ) → count_by (λ (c : Claim). c.worker == worker) s.held ≤ 1

-- There is a chunk table for each input, in their order, which stands for the datagrams that came to it.
pub record AreTables (tables : List Chunks) (inputs : List Input) (datagrams : List Datagram) : Type 0 where
  pub each : length tables ≡ length inputs
  pub stand : (k : ℕ) (table : Chunks) (input : Input) → slice_get tables k ≡ Some table → slice_get inputs k ≡ Some input → StandsFor table (sent_to input.name datagrams)

-- What a node keeps of a state, whatever its disk tells.
pub record Keeps (node : Node) (s : State) : Type 0 where
  pub entries : node.entries.items ≡ s.journal
  pub outcomes_are : node.outcomes.items ≡ outcomes s
  pub config : node.config ≡ config_after s.journal
  pub tables : AreTables node.tables.items (config_after s.journal).inputs s.datagrams
  pub lawful : IsLawful s.journal
  pub bounded : All IsOutcome (outcomes s)
  pub committed : commit_count s ≡ length (outcomes s)
  pub held : node.held.items ≡ s.held
  pub waiting : map (λ (w : Work). mark_of w.range) node.waiting.items ≡ s.waiting
  pub ranges : All (λ (w : Work). w.range ≡ range_of s (mark_of w.range)) node.waiting.items
  -- there is room for each held range to come in
  pub room : length node.waiting.items + length node.held.items ≤ vec_capacity node.waiting
  pub tiled : AreTiled s node.next
  -- the journal has grown at most, and the committed ranges lie in it
  pub grown : length s.base.journal ≤ length s.journal
  pub committed_lie : All (λ (m : Mark). m.first + m.count ≤ length s.journal) s.committed
  pub journal_log : KeepsLog node.journal Journal (length s.journal) (journal_size s) s.base.journal_limit s.base.journal_segment
  pub index_log : KeepsLog node.index Index (length (outcomes s)) (index_size s) s.base.index_limit s.base.index_segment
  pub running : IsRunning node → (node.journal.stopped ≡ false) × (node.index.stopped ≡ false)

-- what stands on a disk: both logs, and the entries and outcomes that are their records
pub record Store : Type 0 where
  pub journal : GateView
  pub index : GateView
  pub entries : List Entry
  pub outcomes : List Outcome

abbrev pub store_of : Node → Store
store_of node = record { journal = node.journal; index = node.index; entries = node.entries.items; outcomes = node.outcomes.items }

-- In every image that the disk may leave, both logs are those of the store, and their records are its entries and outcomes.
pub record StoreOn (store : Store) (disk : DiskState) : Type 0 where
  pub journal_batches : List Batch
  pub index_batches : List Batch
  pub journal : StandsOn store.journal journal_batches disk
  pub index : StandsOn store.index index_batches disk
  pub entries : records_of journal_batches ≡ map entry_bytes store.entries
  pub outcomes : records_of index_batches ≡ map outcome_bytes store.outcomes

-- both logs may be written to
abbrev pub StoreReady : Store → DiskState → Type 0
StoreReady store disk = IsReady store.journal disk × IsReady store.index disk

abbrev pub NodeReady : Node → DiskState → Type 0
NodeReady node disk = StoreReady (store_of node) disk

-- a node stands on a disk
abbrev pub NodeOn : Node → DiskState → Type 0
NodeOn node disk = StoreOn (store_of node) disk
