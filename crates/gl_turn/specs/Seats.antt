-- What a clause says of a lock and of its seats.
use Rattle.std.specs.Prelude.{◌≡◌, ℕ, ◌<◌, Option, [], ◌∷◌, None}
use Rattle.atomic_table.specs.declared.shared.Seat.{Seat}
use Rattle.gl_turn.specs.declared.turn.Turn.{Turn}
use Rattle.gl_turn.specs.declared.seen.Seen.{Seen}
use Rattle.gl_turn.specs.declared.view.Own.{Own}
use Rattle.gl_turn.specs.declared.view.View.{View}
use Rattle.gl_turn.specs.Views.{outside, inside}

module _ {T : Type 0} where
  -- what the seat did
  abbrev pub own_of : Seat (Option T) View → Own
  own_of seat = seat.me.0.own

  -- what it has seen
  abbrev pub seen_by : Seat (Option T) View → Seen
  seen_by seat = seat.me.0.seen

  -- what the value showed as the seat took it
  abbrev pub taken_by : Seat (Option T) View → Seen
  taken_by seat = seat.me.0.out

  -- `seats` gave this seat 1, and it split off none since
  abbrev pub IsAlone : Seat (Option T) View → Type 0
  IsAlone seat = 0 < seat.me.0.alone

  -- how many entries and how many commits the first value had
  abbrev pub journal_at_new : Turn T → ℕ
  journal_at_new lock = lock.journalled

  abbrev pub commits_at_new : Turn T → ℕ
  commits_at_new lock = lock.committed

  -- the lock made the seat
  abbrev pub IsSeatOf : Turn T → Seat (Option T) View → Type 0
  IsSeatOf lock seat = (seat.table_id ≡ lock.table.shared.table_id) × (seat.me.0.own.journalled ≡ lock.journalled) × (seat.me.0.own.committed ≡ lock.committed)

  -- the seat neither waits for the turn nor holds it
  abbrev pub IsOutside : Seat (Option T) View → Type 0
  IsOutside seat = seat.me ≡ (outside seat.me.0.own seat.me.0.alone seat.me.0.seen, [])

  -- the seat holds the turn, and the value is out with it
  abbrev pub IsInside : Seat (Option T) View → Type 0
  IsInside seat = seat.me ≡ (inside seat.me.0.own seat.me.0.alone seat.me.0.seen seat.me.0.ticket seat.me.0.out 0 0, (0, None) ∷ [])
