-- What reading the logs of a store gives.
use Rattle.std.specs.Prelude.{◌≡◌, ◌⊎◌, ℕ, List, length, false, Option}
use Rattle.gl_outside.specs.Disk.{Image, DiskState}
use Rattle.gl_gatelog.specs.declared.kind.Log.{Log}
use Rattle.gl_gatelog.specs.declared.kind.LogFault.{LogFault}
use Rattle.gl_gatelog.specs.declared.kind.LogFault.TheVariants as fault
use Rattle.gl_gatelog.specs.Batch.{Batch}
use Rattle.gl_gatelog.specs.Log.{records_of}
use Rattle.gl_gatelog.specs.Progress.{OpeningView, HasRead, HasEnded}
use Rattle.gl_node.specs.Moments.{OnlyInLogs}
use Rattle.gl_node.specs.Standing.{LogShows, EndsThere, RecordsSize}
use Rattle.gl_node.specs.declared.fault.OpenFault.{OpenFault}
use Rattle.gl_node.specs.declared.fault.OpenFault.TheVariants.{Damaged, DiskFault, OutOfMemory}

-- what a reader says of its log: which one it is, the segment size that was asked for, its limit, and how many records it has read
pub record IsOf (log : Log) (segment limit count : ℕ) (v : OpeningView) : Type 0 where
  pub log_is : v.log.log ≡ log
  pub limit_is : v.log.limit ≡ limit
  pub running : v.log.stopped ≡ false
  pub count_is : length v.log.places ≡ count
  -- a log without a begin batch has none, and its segments will be of the size that was asked for
  pub fresh : v.has_begin ≡ false → count ≡ 0
  pub sized : v.has_begin ≡ false → v.log.segment_size ≡ segment

-- the log was read to its end, and these are its records
pub record HasAll (v : OpeningView) (records : List (List ℕ)) (disk : DiskState) : Type 0 where
  pub batches : List Batch
  pub read : HasRead v batches disk
  pub ended : HasEnded v disk
  pub records_are : records_of batches ≡ records

-- a fault of a log in the node's words
abbrev pub open_fault_of : Log → LogFault → OpenFault
open_fault_of log (fault.Damaged area at) = Damaged log area at
open_fault_of log fault.DiskFault = DiskFault
open_fault_of log other = OutOfMemory

-- beside damage
abbrev pub IsNotOpened : OpenFault → Type 0
IsNotOpened e = (e ≡ DiskFault) ⊎ (e ≡ OutOfMemory)

-- What an image shows of a log that was read: these batches, nothing behind them, and the segment size of the reader where
-- one is recorded.
pub record LogStands (v : OpeningView) (batches : List Batch) (image : Image) : Type 0 where
  pub segment : Option ℕ
  pub shows : LogShows v.log.log image segment batches
  pub ends : EndsThere v.log.log image segment batches
  pub size : RecordsSize v.log.segment_size segment

-- from an image of the disk as it was, both logs as they were read; no area but theirs has changed
pub record BothStand (journal index : OpeningView) (a b : List Batch) (old new : Image) : Type 0 where
  pub elsewhere : OnlyInLogs old new
  pub journal_stands : LogStands journal a new
  pub index_stands : LogStands index b new
