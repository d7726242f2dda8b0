-- That a log stands on a disk, and what a crash leaves of one.
use Rattle.std.specs.Prelude.{◌≤◌, ◌≡◌, ◌≢◌, ◌⊎◌, ℕ, ◌<◌, List, [], ◌∷◌, ◌++◌, length, true}
use Rattle.gl_outside.specs.Disk.{Image, DiskState, After}
use Rattle.gl_gatelog.specs.declared.kind.Log.{Log}
use Rattle.gl_gatelog.specs.Batch.{Batch}
use Rattle.gl_gatelog.specs.Gate.{Waits, IsClosed}
use Rattle.gl_gatelog.specs.Log.{last_segment, area_of, begin, log_end, end_area, next, places_from, bytes_of, LogAlone}
use Rattle.gl_gatelog.specs.View.{GateView}

-- Every image that the disk may leave has this log, with these batches behind its begin batch.
pub record StandsOn (view : GateView) (batches : List Batch) (disk : DiskState) : Type 0 where
  pub images : (c : Image) → disk.may_leave c → LogAlone view.log view.segment_size batches c
  pub gate : (c : Image) → disk.may_leave c → Waits view.gated view.place.1 (c (area_of view.log view.place.0))
  pub place : view.place ≡ log_end view.log view.segment_size batches
  pub places : view.places ≡ places_from view.log view.segment_size (next view.log view.segment_size (0, 0) (begin view.log view.segment_size)) batches
  pub bytes : view.bytes ≡ bytes_of (begin view.log view.segment_size ∷ batches)

-- A log may be written to: where a gate stands at the place of its next batch, that gate lies within what the disk reads.
-- No call needs more of a disk to be lawful, whatever else stands there.
abbrev pub IsReady : GateView → DiskState → Type 0
IsReady view disk = view.gated ≡ true → view.place.1 < length (disk.reads (area_of view.log view.place.0))

-- from an image of the disk as it was, the log as it was or with one batch more; no area but the one in which it ended has changed
pub record HasLog (log : Log) (segment_size : ℕ) (batches : List Batch) (batch : Batch) (old new : Image) : Type 0 where
  pub elsewhere : (b : ℕ) → b ≢ end_area log segment_size batches → new b ≡ old b
  pub before_or_with : LogAlone log segment_size batches new ⊎ LogAlone log segment_size (batches ++ batch ∷ []) new

abbrev pub BeforeOrWith : GateView → List Batch → Batch → DiskState → Image → Type 0
BeforeOrWith view batches batch disk = After disk (HasLog view.log view.segment_size batches batch)

-- The log has no batch yet: its first area is empty, a lone gate, or has a gate that isn't open.
abbrev pub IsFresh : Log → Image → Type 0
IsFresh log image = IsClosed 0 (image (area_of log 0))

-- from an image of the disk as it was, a log without a batch or with its begin batch alone; no area but its first has changed
pub record IsBegun (log : Log) (segment_size : ℕ) (old new : Image) : Type 0 where
  pub elsewhere : (b : ℕ) → b ≢ area_of log 0 → new b ≡ old b
  pub fresh_or_begun : IsFresh log new ⊎ LogAlone log segment_size [] new

-- no area but this one has changed
abbrev pub IsSameBut : ℕ → Image → Image → Type 0
IsSameBut area old new = (b : ℕ) → b ≢ area → new b ≡ old b

-- each area of the log but its first is empty, in every image
abbrev pub IsEmptyBehind : Log → DiskState → Type 0
IsEmptyBehind log disk = (c : Image) → disk.may_leave c → (segment : ℕ) → 0 < segment → segment ≤ last_segment log → c (area_of log segment) ≡ []

-- what opening leaves at any moment: an image that the disk could leave before, or a begun log
abbrev pub LeftByOpening : Log → ℕ → DiskState → Image → Type 0
LeftByOpening log segment_size disk c = disk.may_leave c ⊎ After disk (IsBegun log segment_size) c
