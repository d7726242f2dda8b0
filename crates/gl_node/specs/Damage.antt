-- Which store is damaged, and where: at the first unlawful batch of a log, the journal looked at first.
use Rattle.std.specs.Prelude.{◌≡◌, ◌⊎◌, ℕ, ◌≤◌, List, ◌∷◌, ◌++◌, length, map, Option}
use Rattle.std.specs.List.{All}
use Rattle.gl_outside.specs.Disk.{Image}
use Rattle.gl_gatelog.specs.declared.kind.Log.{Log}
use Rattle.gl_gatelog.specs.declared.kind.Log.TheVariants.{Journal, Index}
use Rattle.gl_gatelog.specs.Batch.{Batch, BatchAt}
use Rattle.gl_gatelog.specs.Log.{Holds, IsSegmentSize, Place, area_of, begin, log_end, records_of}
use Rattle.gl_gatelog.specs.Reading.{IsBroken, HasNoBegin}
use Rattle.gl_fields.specs.declared.entry.Entry.{Entry}
use Rattle.gl_fields.specs.declared.entry.Outcome.{Outcome}
use Rattle.gl_fields.specs.Entries.{entry_bytes}
use Rattle.gl_fields.specs.Outcomes.{outcome_bytes}
use Rattle.gl_fields.specs.Bounds.{IsOutcome}
use Rattle.gl_node.specs.Standing.{IsLawful, LogShows}

-- records that are the bytes of a lawful journal
abbrev pub AreEntries : List (List ℕ) → Type 0
AreEntries records = (journal : List Entry) × (records ≡ map entry_bytes journal) × IsLawful journal

-- records that are the bytes of outcomes, of so many entries at most
abbrev pub AreOutcomes : ℕ → List (List ℕ) → Type 0
AreOutcomes entries records = (found : List Outcome) × (records ≡ map outcome_bytes found) × All IsOutcome found × (length found ≤ entries)

-- Behind these lawful batches, whose records have P, the gate at a place is open, and no lawful batch stands there, or one
-- with which the records don't have P any more.
pub record FirstUnlawful (log : Log) (image : Image) (P : List (List ℕ) → Type 0) (place : Place) : Type 0 where
  pub segment_size : ℕ
  pub batches : List Batch
  pub sized : IsSegmentSize segment_size
  pub holds : Holds log segment_size image (0, 0) (begin log segment_size ∷ batches)
  pub so_far : P (records_of batches)
  pub here : log_end log segment_size batches ≡ place
  pub unlawful : IsBroken (image (area_of log place.0)) place.1
      ⊎ ((batch : Batch) × BatchAt (image (area_of log place.0)) place.1 batch × (P (records_of batches ++ batch) → ⊥))

-- the first unlawful batch of a log stands at this byte of this area; it may be the very first, which isn't a begin batch
abbrev pub UnlawfulAt : Log → Image → (List (List ℕ) → Type 0) → ℕ → ℕ → Type 0
UnlawfulAt log image P area at =
    ((area ≡ area_of log 0) × (at ≡ 0) × HasNoBegin log image)
    ⊎ ((place : Place) × (area ≡ area_of log place.0) × (at ≡ place.1) × FirstUnlawful log image P place)

-- a store is damaged in this log at this byte of this area
abbrev pub IsDamaged : Image → Log → ℕ → ℕ → Type 0
IsDamaged image Journal area at = UnlawfulAt Journal image AreEntries area at
IsDamaged image Index area at =
    (segment : Option ℕ) × (batches : List Batch) × LogShows Journal image segment batches × AreEntries (records_of batches)
    × UnlawfulAt Index image (AreOutcomes (length (records_of batches))) area at
