-- What a reader of a log knows of it, and what it has read on a disk.
use Rattle.std.specs.Prelude.{◌≡◌, ◌⊎◌, ℕ, ◌<◌, ◌≤◌, List, [], ◌∷◌, length, Bool, true, false, if◌then◌else◌}
use Rattle.gl_outside.specs.Disk.{Image, DiskState, IsDurable}
use Rattle.gl_gatelog.specs.declared.kind.Log.{Log}
use Rattle.gl_gatelog.specs.Batch.{Batch}
use Rattle.gl_gatelog.specs.Gate.{AllWait}
use Rattle.gl_gatelog.specs.Log.{area_of, begin, last_segment, Holds, IsSegmentSize}
use Rattle.gl_gatelog.specs.View.{GateView, appended, begun}
use Rattle.gl_gatelog.specs.Reading.{Reading, Fresh, Whole, reopened}

pub record OpeningView : Type 0 where
  -- the log as far as it is read; its place is that of the batch to be read next
  pub log : GateView
  -- whether it has its begin batch
  pub has_begin : Bool
  -- the bytes that are held of the area that is being read
  pub area : List ℕ

-- a log of which nothing is read
abbrev pub unread : Log → ℕ → ℕ → Bool → GateView
unread log segment_size limit gated = record {
  log = log;
  segment_size = segment_size;
  limit = limit;
  place = (0, 0);
  gated = gated;
  places = [];
  bytes = 0;
  stopped = false;
}

-- A gate stands at the next batch's place, and every image has the area as the disk reads it. What is held is that area, unless
-- it was let go.
pub record IsAtHand (v : OpeningView) (disk : DiskState) : Type 0 where
  pub durable : IsDurable (area_of v.log.log v.log.place.0) (disk.reads (area_of v.log.log v.log.place.0)) disk
  pub more : 1 < length (disk.reads (area_of v.log.log v.log.place.0))
  pub gate : v.log.place.1 < length (disk.reads (area_of v.log.log v.log.place.0))
  pub same : v.log.place.1 < length v.area → v.area ≡ disk.reads (area_of v.log.log v.log.place.0)

-- Behind the begin batch these batches were read, in areas that every image has as the disk reads them.
pub record ReadBehind (v : OpeningView) (batches : List Batch) (disk : DiskState) : Type 0 where
  pub with_begin : v.has_begin ≡ true
  pub sized : IsSegmentSize v.log.segment_size
  pub holds : Holds v.log.log v.log.segment_size disk.reads (0, 0) (begin v.log.log v.log.segment_size ∷ batches)
  pub shown : v.log ≡ reopened v.log.log v.log.segment_size v.log.limit batches v.log.gated
  pub durable : (k : ℕ) → k < v.log.place.0 → IsDurable (area_of v.log.log k) (disk.reads (area_of v.log.log k)) disk
  pub at_hand : v.log.gated ≡ true → IsAtHand v disk

-- The log has no batch, and in every image its first area waits for one.
pub record IsUnbegun (v : OpeningView) (disk : DiskState) : Type 0 where
  pub no_begin : v.has_begin ≡ false
  pub place : v.log.place ≡ (0, 0)
  pub waits : AllWait v.log.gated (area_of v.log.log 0) 0 disk

-- what was read of a log so far
abbrev pub HasRead : OpeningView → List Batch → DiskState → Type 0
HasRead v batches disk = ReadBehind v batches disk ⊎ ((batches ≡ []) × IsUnbegun v disk)

-- in every image no batch stands behind those that were read
abbrev pub HasEnded : OpeningView → DiskState → Type 0
HasEnded v disk = AllWait v.log.gated (area_of v.log.log v.log.place.0) v.log.place.1 disk

-- the log as it is known before its next batch is read: behind its begin batch, or at its place if it has none
abbrev pub at_begin : Log → ℕ → ℕ → OpeningView → GateView
at_begin log segment_size limit v = if v.has_begin then begun log v.log.segment_size limit else unread log segment_size limit v.log.gated

-- the same log, however far it is read
pub record IsOfOne (old new : OpeningView) : Type 0 where
  pub log : new.log.log ≡ old.log.log
  pub segment_size : new.log.segment_size ≡ old.log.segment_size
  pub limit : new.log.limit ≡ old.log.limit
  pub has_begin : new.has_begin ≡ old.has_begin

-- the same log, read no further
pub record IsNoFurther (old new : OpeningView) : Type 0 where
  pub log : new.log ≡ record old.log { gated = new.log.gated }
  pub has_begin : new.has_begin ≡ old.has_begin

-- the same log, read by one batch further
pub record IsFurther (batch : Batch) (old new : OpeningView) : Type 0 where
  pub log : new.log ≡ appended old.log batch
  pub has_begin : new.has_begin ≡ old.has_begin

-- in every image each area of the log behind its place is empty
abbrev pub IsEmptyBeyond : GateView → DiskState → Type 0
IsEmptyBeyond view disk = (c : Image) → disk.may_leave c → (k : ℕ) → view.place.0 < k → k ≤ last_segment view.log → c (area_of view.log k) ≡ []

-- the log that was read, or one with its begin batch alone
abbrev pub finished : OpeningView → GateView
finished v = if v.has_begin then v.log else begun v.log.log v.log.segment_size v.log.limit

-- what a log reads as that ends behind the batches that were read
abbrev pub reading_of : OpeningView → List Batch → Reading
reading_of v batches = if v.has_begin then Whole v.log.segment_size batches else Fresh
