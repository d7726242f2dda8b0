-- What each kind of step tells the seat that makes it: of the step, the seat before, the number that it found in the word,
-- and the seat after. The exchanges of the slot change no view and tell the value alone.
use Rattle.std.specs.Prelude.{◌≡◌, ◌≢◌, ℕ, zero, suc, ◌+◌, ◌-◌, ◌%◌, ◌^◌, ◌<◌, ◌≤◌, List, [], ◌∷◌, ◌++◌, length, Option, Some, None, cond, leb, min}
use Rattle.atomic_table.specs.Table.{Me, Step}
use Rattle.gl_turn.specs.declared.seen.Seen.{Seen}
use Rattle.gl_turn.specs.declared.view.Own.{Own}
use Rattle.gl_turn.specs.declared.view.View.{View}
use Rattle.gl_turn.specs.Order.{IsBefore, IsLonger}
use Rattle.gl_turn.specs.Own.{numbers_from, one_turn_more}
use Rattle.gl_turn.specs.Rule.{IsSeatCount}
use Rattle.gl_turn.specs.Views.{blank, outside, waiting, inside, double, beyond}

-- k entries more, from position n on
abbrev pub appended_more : Own → ℕ → ℕ → Own
appended_more own n k = record own { appends = own.appends + k; positions = own.positions ++ numbers_from n k }

abbrev pub committed_more : Own → ℕ → Own
committed_more own k = record own { commits = own.commits + k }

-- the chunks and tries by which the value grew from s to t
abbrev pub tried_more : Own → Seen → Seen → Own
tried_more own s t = record own { chunks = own.chunks + (t.chunks - s.chunks); tries = own.tries + (t.tries - s.tries) }

-- of two that are in order the later is the one with the greater sum of counts
abbrev pub weight : Seen → ℕ
weight s = length s.journal + (s.commits + (s.chunks + (s.tries + (s.faults + min s.stop 1))))

abbrev pub later : Seen → Seen → Seen
later s t = cond (leb (weight s) (weight t)) t s

-- 1 where the count of seats is 1, else as before
abbrev pub alone_after : ℕ → ℕ → ℕ
alone_after (suc zero) before = 1
alone_after _ before = before

abbrev Sat : Type 0 → Type 0
Sat T = Me (Option T) View

module _ {T : Type 0} where
  -- draw
  abbrev pub drew : Step (Option T) → Sat T → ℕ → Sat T → Type 0
  drew st m n m' = (m'.1 ≡ m.1) × (m'.0 ≡ waiting (one_turn_more m.0.own) m.0.alone m.0.seen m'.0.ticket) × (n ≡ m'.0.ticket % 2 ^ 64)

  -- count seat down, after a refused split
  abbrev pub gave_up : Step (Option T) → Sat T → ℕ → Sat T → Type 0
  gave_up st m n m' = m' ≡ (outside m.0.own m.0.alone m.0.seen, m.1)

  -- count seat down, after a join
  abbrev pub merged : Step (Option T) → Sat T → ℕ → Sat T → Type 0
  merged st m n m' = (m' ≡ (outside m.0.own 0 (later m.0.seen m.0.told), m.1)) × IsLonger m.0.seen m.0.told (later m.0.seen m.0.told)

  -- see appends and see commits, before the seat has counted its own
  abbrev pub saw_appends : Step (Option T) → Sat T → ℕ → Sat T → Type 0
  saw_appends st m n m' = (m' ≡ m) × (m.0.own.journalled + n ≡ length m.0.out.journal)

  abbrev pub saw_commits : Step (Option T) → Sat T → ℕ → Sat T → Type 0
  saw_commits st m n m' = (m' ≡ m) × (m.0.own.committed + n ≡ m.0.out.commits)

  -- count appends and count commits
  abbrev pub counted_appends : Step (Option T) → Sat T → ℕ → Sat T → Type 0
  counted_appends st m n m' = m' ≡ (inside (appended_more m.0.own (length m.0.out.journal) st.first) m.0.alone m.0.seen m.0.ticket m.0.out st.first 0, m.1)

  abbrev pub counted_commits : Step (Option T) → Sat T → ℕ → Sat T → Type 0
  counted_commits st m n m' = m' ≡ (inside (committed_more m.0.own st.first) m.0.alone m.0.seen m.0.ticket m.0.out m.0.gained st.first, m.1)

  module _ (shows : T → Seen) where
    -- see turn: where the ticket is served, the seat takes the value from its home
    abbrev pub saw : Step (Option T) → Sat T → ℕ → Sat T → Type 0
    saw st m n m' =
        (n ≡ m.0.ticket % 2 ^ 64 → (x : T) × (m'.1 ≡ (0, Some x) ∷ []) × (m'.0 ≡ inside m.0.own m.0.alone m.0.seen m.0.ticket (shows x) 0 0) × IsBefore m.0.seen (shows x))
        × (n ≢ m.0.ticket % 2 ^ 64 → m' ≡ m)

    -- count seat up: below the limit the seat may split one off
    abbrev pub counted : Step (Option T) → Sat T → ℕ → Sat T → Type 0
    counted st m n m' =
        (m'.1 ≡ m.1)
        × (n < 2 ^ 62 → m'.0 ≡ double m.0.own m.0.seen m.0.seen)
        × (2 ^ 62 ≤ n → m'.0 ≡ beyond m.0.own m.0.alone m.0.seen)
        × IsSeatCount shows m.0.own.journalled m.0.own.committed m.0 n

    -- see seats
    abbrev pub saw_seats : Step (Option T) → Sat T → ℕ → Sat T → Type 0
    saw_seats st m n m' = (m' ≡ (outside m.0.own (alone_after n m.0.alone) m.0.seen, m.1)) × IsSeatCount shows m.0.own.journalled m.0.own.committed m'.0 n

    -- what the value in hand shows
    abbrev pub in_hand : List (ℕ × Option T) → Seen
    in_hand [] = blank
    in_hand ((k, None) ∷ xs) = blank
    in_hand ((k, Some y) ∷ xs) = shows y

    -- pass turn: the value in hand goes home, and the seat has seen it
    abbrev pub passed_on : Step (Option T) → Sat T → ℕ → Sat T → Type 0
    passed_on st m n m' = m' ≡ (outside (tried_more m.0.own m.0.out (in_hand m.1)) m.0.alone (in_hand m.1), [])
