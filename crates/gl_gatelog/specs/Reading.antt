-- What reading the areas of a log finds, and what opening it answers and leaves by that.
use Rattle.std.specs.Prelude.{◌≡◌, ◌⊎◌, ℕ, ◌<◌, ◌≤◌, List, [], ◌∷◌, length, slice_index, Bool, false}
use Rattle.gl_outside.specs.Disk.{Image, DiskState, After}
use Rattle.gl_gatelog.specs.declared.kind.Log.{Log}
use Rattle.gl_gatelog.specs.declared.kind.LogFault.{LogFault}
use Rattle.gl_gatelog.specs.declared.kind.LogFault.TheVariants.{DiskFault, OutOfMemory, Damaged}
use Rattle.gl_gatelog.specs.Batch.{Batch, BatchAt}
use Rattle.gl_gatelog.specs.Log.{last_segment, area_of, begin, next, log_end, end_area, places_from, bytes_of, Holds, LogIs, IsSegmentSize}
use Rattle.gl_gatelog.specs.Gate.{Waits}
use Rattle.gl_gatelog.specs.View.{GateView}
use Rattle.gl_gatelog.specs.Stand.{IsFresh, IsBegun}

pub data Reading : Type 0 where
  -- no batch
  Fresh : Reading
  -- the segment size, and the batches behind the begin batch
  Whole : (segment_size : ℕ) (batches : List Batch) → Reading
  -- the first opened gate without a lawful batch: its segment and byte
  Broken : (segment at : ℕ) → Reading

-- the gate at a place is open, and no lawful batch stands there
pub record IsBroken (area : List ℕ) (at : ℕ) : Type 0 where
  pub more : 1 < length area
  pub open_gate : slice_index area at ≡ 1
  pub unlawful : (batch : Batch) → BatchAt area at batch → ⊥

-- behind these lawful batches the log is broken
pub record BrokenBehind (log : Log) (image : Image) (segment at segment_size : ℕ) (batches : List Batch) : Type 0 where
  pub sized : IsSegmentSize segment_size
  pub holds : Holds log segment_size image (0, 0) (begin log segment_size ∷ batches)
  pub place : log_end log segment_size batches ≡ (segment, at)
  pub broken : IsBroken (image (area_of log segment)) at

-- the first batch isn't a begin batch
pub record HasNoBegin (log : Log) (image : Image) : Type 0 where
  pub more : 1 < length (image (area_of log 0))
  pub open_gate : slice_index (image (area_of log 0)) 0 ≡ 1
  pub no_begin : (segment_size : ℕ) → IsSegmentSize segment_size → BatchAt (image (area_of log 0)) 0 (begin log segment_size) → ⊥

-- what the areas of a log read as
abbrev pub ReadsAs : Log → Image → Reading → Type 0
ReadsAs log image Fresh = IsFresh log image
ReadsAs log image (Whole segment_size batches) = LogIs log segment_size batches image
ReadsAs log image (Broken segment at) =
    ((segment_size : ℕ) × (batches : List Batch) × BrokenBehind log image segment at segment_size batches)
    ⊎ ((segment ≡ 0) × (at ≡ 0) × HasNoBegin log image)

-- the segment in which a reading ends
abbrev pub last_read : Log → Reading → ℕ
last_read log Fresh = 0
last_read log (Whole segment_size batches) = (log_end log segment_size batches).0
last_read log (Broken segment at) = segment

-- the batches behind the begin batch
abbrev pub batches_in : Reading → List Batch
batches_in Fresh = []
batches_in (Whole segment_size batches) = batches
batches_in (Broken segment at) = []

-- in every image the areas behind the one in which the reading ends are empty
abbrev pub IsAloneBehind : Log → Reading → DiskState → Type 0
IsAloneBehind log r disk = (c : Image) → disk.may_leave c → (k : ℕ) → last_read log r < k → k ≤ last_segment log → c (area_of log k) ≡ []

-- the log of these batches, taken up where they end
abbrev pub reopened : Log → ℕ → ℕ → List Batch → Bool → GateView
reopened log segment_size limit batches gated = record {
  log = log;
  segment_size = segment_size;
  limit = limit;
  place = log_end log segment_size batches;
  gated = gated;
  places = places_from log segment_size (next log segment_size (0, 0) (begin log segment_size)) batches;
  bytes = bytes_of (begin log segment_size ∷ batches);
  stopped = false;
}

-- The log of an image, taken up: where its next batch will stand a gate waits, or none does.
pub record IsReopened (log : Log) (segment_size limit : ℕ) (batches : List Batch) (image : Image) (view : GateView) : Type 0 where
  pub shown : view ≡ reopened log segment_size limit batches view.gated
  pub waits : Waits view.gated view.place.1 (image (end_area log segment_size batches))

-- what opening answers beside a damaged batch
abbrev pub IsOpenFault : LogFault → Type 0
IsOpenFault e = (e ≡ DiskFault) ⊎ (e ≡ OutOfMemory)

-- what opening answers where it refuses
abbrev pub IsReadFault : LogFault → Type 0
IsReadFault e = IsOpenFault e ⊎ ((area : ℕ) × (at : ℕ) × (e ≡ Damaged area at))

-- what an opening that refuses has found: a fault, or where the log is broken
abbrev pub FaultReads : Log → Image → LogFault → Type 0
FaultReads log image e = IsOpenFault e ⊎ ((segment : ℕ) × (at : ℕ) × (e ≡ Damaged (area_of log segment) at) × ReadsAs log image (Broken segment at))

-- what a crash at any moment of opening leaves: what could be left before, and of a log without a batch also a begun one
abbrev pub LeftByReading : Log → ℕ → DiskState → Reading → Image → Type 0
LeftByReading log segment_size disk Fresh c = disk.may_leave c ⊎ After disk (IsBegun log segment_size) c
LeftByReading log segment_size disk (Whole recorded batches) c = disk.may_leave c
LeftByReading log segment_size disk (Broken segment at) c = disk.may_leave c
