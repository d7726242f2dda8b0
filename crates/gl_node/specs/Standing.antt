-- What an image shows, and which store is damaged.
use Rattle.std.specs.Prelude.{◌≡◌, ℕ, ◌<◌, ◌≤◌, ◌^◌, ◌∷◌, List, [], length, map, take, slice_get, Option, None, Some, IsTrue, ⊤}
use Rattle.std.specs.List.{All}
use Rattle.gl_outside.specs.Disk.{Image, DiskState}
use Rattle.gl_gatelog.specs.declared.kind.Log.{Log}
use Rattle.gl_gatelog.specs.declared.kind.Log.TheVariants.{Journal, Index}
use Rattle.gl_gatelog.specs.Batch.{Batch}
use Rattle.gl_gatelog.specs.Log.{LogIs, area_of, begin, bytes_of, log_end, last_segment, records_of}
use Rattle.gl_gatelog.specs.Stand.{IsFresh}
use Rattle.gl_fields.specs.declared.entry.Entry.{Entry}
use Rattle.gl_fields.specs.declared.entry.Entry.TheVariants.{Admin, Message}
use Rattle.gl_fields.specs.declared.entry.Outcome.{Outcome}
use Rattle.gl_fields.specs.Entries.{entry_bytes, version_after}
use Rattle.gl_fields.specs.Outcomes.{outcome_bytes}
use Rattle.gl_fields.specs.Bounds.{IsEntry, IsOutcome}
use Rattle.gl_node.specs.declared.node.Options.{Options}
use Rattle.gl_node.specs.Configuration.{config_after, is_input}
use Rattle.gl_node.specs.State.{Base, State, outcomes}

-- An entry may follow these: a message with lawful parts, the version after them, and an input that is known then. There are no commands yet,
-- and no message of the second format, which keeps its origin.
abbrev pub MayFollow : List Entry → Entry → Type 0
MayFollow before (Admin command) = ⊥
MayFollow before (Message m) = IsEntry (Message m) × (m.version ≡ version_after before) × IsTrue (is_input (config_after before) m.input) × (m.origin ≡ None)

-- each entry may follow those before it
abbrev pub IsLawful : List Entry → Type 0
IsLawful journal = (position : ℕ) (entry : Entry) → slice_get journal position ≡ Some entry → MayFollow (take position journal) entry

-- what a log reads as: no batch, or a segment size and the batches behind the begin batch
abbrev pub LogShows : Log → Image → Option ℕ → List Batch → Type 0
LogShows log image None batches = IsFresh log image × (batches ≡ [])
LogShows log image (Some segment_size) batches = LogIs log segment_size batches image

-- the image shows these entries and these outcomes
pub record Shows (image : Image) (journal : List Entry) (found : List Outcome) : Type 0 where
  pub journal_segment : Option ℕ
  pub index_segment : Option ℕ
  pub journal_batches : List Batch
  pub index_batches : List Batch
  pub journal_reads : LogShows Journal image journal_segment journal_batches
  pub index_reads : LogShows Index image index_segment index_batches
  pub entries : records_of journal_batches ≡ map entry_bytes journal
  pub outcomes : records_of index_batches ≡ map outcome_bytes found
  pub lawful : IsLawful journal
  pub bounded : All IsOutcome found
  pub each_has_entry : length found ≤ length journal

-- behind where its reading ends a log has nothing
abbrev pub EndsThere : Log → Image → Option ℕ → List Batch → Type 0
EndsThere log image None batches = (k : ℕ) → 0 < k → k ≤ last_segment log → image (area_of log k) ≡ []
EndsThere log image (Some segment_size) batches = (k : ℕ) → (log_end log segment_size batches).0 < k → k ≤ last_segment log → image (area_of log k) ≡ []

-- the size that a log records, where it has a batch, is this one
abbrev pub RecordsSize : ℕ → Option ℕ → Type 0
RecordsSize segment_size None = ⊤
RecordsSize segment_size (Some recorded) = recorded ≡ segment_size

-- An image stands for a state: it shows its entries and outcomes, has the segment sizes of its opening, and nothing behind the ends of its logs, so that a later opening may rest on it.
pub record StandsFor (image : Image) (s : State) : Type 0 where
  pub shows : Shows image s.journal (outcomes s)
  pub journal_ends : EndsThere Journal image shows.journal_segment shows.journal_batches
  pub index_ends : EndsThere Index image shows.index_segment shows.index_batches
  pub journal_size : RecordsSize s.base.journal_segment shows.journal_segment
  pub index_size : RecordsSize s.base.index_segment shows.index_segment

-- the ranges of the options
pub record AreOptions (options : Options) : Type 0 where
  pub segment_least : 4096 ≤ options.segment
  pub segment_most : options.segment ≤ 2 ^ 30
  pub journal_least : 4096 ≤ options.journal_limit
  pub journal_most : options.journal_limit ≤ 2 ^ 40
  pub index_least : 4096 ≤ options.index_limit
  pub index_most : options.index_limit ≤ 2 ^ 42

-- what stood at an opening has the limits that were asked for
pub record HasLimits (options : Options) (base : Base) : Type 0 where
  pub journal : base.journal_limit ≡ options.journal_limit
  pub index : base.index_limit ≡ options.index_limit

-- behind where its reading ends a log has nothing, in every image that the disk may leave
abbrev pub IsAlone : Log → Option ℕ → List Batch → DiskState → Type 0
IsAlone log segment batches disk = (c : Image) → disk.may_leave c → EndsThere log c segment batches

-- the recorded segment size, or the one that is asked for where there is none
abbrev pub segment_or : ℕ → Option ℕ → ℕ
segment_or asked None = asked
segment_or asked (Some recorded) = recorded

-- the sum of the sizes of a log's batches, its begin batch among them, which opening writes where there is none
abbrev pub log_bytes : Log → ℕ → List Batch → ℕ
log_bytes log segment_size batches = bytes_of (begin log segment_size ∷ batches)

-- what stands at the opening of a store
abbrev pub base_of : Options → (image : Image) (journal : List Entry) (found : List Outcome) → Shows image journal found → Base
base_of options image journal found shown = record {
  journal = journal;
  found = found;
  journal_bytes = log_bytes Journal (segment_or options.segment shown.journal_segment) shown.journal_batches;
  index_bytes = log_bytes Index (segment_or options.segment shown.index_segment) shown.index_batches;
  journal_limit = options.journal_limit;
  index_limit = options.index_limit;
  journal_segment = segment_or options.segment shown.journal_segment;
  index_segment = segment_or options.segment shown.index_segment;
}

-- The image shows these entries and outcomes, and in no image that the disk may leave anything stands behind the ends of
-- its logs: so it is with an empty disk, and with each disk that a node left.
pub record IsStore (disk : DiskState) (journal : List Entry) (found : List Outcome) : Type 0 where
  pub shows : Shows disk.reads journal found
  pub journal_alone : IsAlone Journal shows.journal_segment shows.journal_batches disk
  pub index_alone : IsAlone Index shows.index_segment shows.index_batches disk
