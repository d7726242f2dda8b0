-- One image of those that a crash may leave, for each of five fates of what was not synced.
use Rattle.std.specs.Prelude.{◌≡◌, ℕ, ◌-◌, ◌/◌, ◌<◌, List, [], ◌∷◌, ◌++◌, length, take, drop, replicate, slice_index, if◌then◌else◌}
use Rattle.gl_outside.specs.declared.crash.Unsynced.{Unsynced}
use Rattle.gl_outside.specs.declared.crash.Unsynced.TheVariants.{Absent, Half, Whole, Zeros, Ones}
use Rattle.gl_outside.specs.Crash.{synced, greatest_length, is_touched}
use Rattle.gl_outside.specs.Disk.{Image}
use Rattle.gl_outside.specs.Events.{Event, Looked, Wrote, WasCut, Synced, content, put, written_over}

-- the first so many calls, of calls of which the newest is the first in the list
abbrev pub first_calls : ℕ → List Event → List Event
first_calls n events = drop (length events - n) events

-- what is there of the bytes of a write
abbrev pub of_written : Unsynced → List ℕ → List ℕ
of_written Absent bytes = []
of_written Half bytes = take (length bytes / 2) bytes
of_written Whole bytes = bytes
of_written Zeros bytes = replicate (length bytes) 0
of_written Ones bytes = replicate (length bytes) 255

-- what is there of the bytes that a cut takes away
abbrev pub of_cut : Unsynced → List ℕ → List ℕ
of_cut Absent bytes = bytes
of_cut Half bytes = take (length bytes / 2) bytes
of_cut Whole bytes = []
of_cut Zeros bytes = replicate (length bytes) 0
of_cut Ones bytes = replicate (length bytes) 255

-- what a crash leaves after these calls: of each area what it read as at its last sync, and of each later write and cut a part
abbrev pub left_by : Unsynced → List Event → Image
left_by unsynced [] = λ _. []
left_by unsynced (Looked ∷ earlier) = left_by unsynced earlier
left_by unsynced (Wrote area at bytes done ∷ earlier) = put area (written_over at (of_written unsynced bytes) (left_by unsynced earlier area)) (left_by unsynced earlier)
left_by unsynced (WasCut area n done ∷ earlier) = put area (take n (left_by unsynced earlier area) ++ of_cut unsynced (drop n (left_by unsynced earlier area))) (left_by unsynced earlier)
left_by unsynced (Synced area ∷ earlier) = put area (content earlier area) (left_by unsynced earlier)

-- the greatest length, and this byte at each place that was written or cut since the last sync
pub record IsFilled (byte area : ℕ) (events : List Event) (bytes : List ℕ) : Type 0 where
  pub longest : length bytes ≡ greatest_length area events
  pub each : (place : ℕ) → place < length bytes → slice_index bytes place ≡ (if is_touched area place events then byte else slice_index (synced area events) place)
