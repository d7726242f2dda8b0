-- What holds between any two steps.
-- The words: 0 has the tickets drawn, 1 the turns passed, 2 the seats, 3 the appends and 4 the commits, each of the first
-- two modulo 2^64. The one slot has the value.
use Rattle.std.specs.Prelude.{◌≡◌, ◌⊎◌, ℕ, ◌+◌, ◌%◌, ◌^◌, ◌<◌, ◌≤◌, List, [], ◌∷◌, length, slice_index, Option, Some, MatchOption}
use mathlib.Core.Option.{some, none}
use mathlib.Core.Option as maybe
use lib.ListN.{get_elem?}
use Rattle.atomic_table.specs.Table.{State}
use Rattle.gl_turn.specs.declared.seen.Seen.{Seen}
use Rattle.gl_turn.specs.declared.view.View.{View}
use Rattle.gl_turn.specs.Order.{IsBefore}

-- what a seat has seen, or was told of by a seat that it has joined
abbrev pub Knows : View → Seen → Type 0
Knows v x = (x ≡ v.seen) ⊎ (x ≡ v.told)

-- What holds of one seat, where the first value had j entries and c commits, and the value that was last at home shows `top`.
pub record Fits (j c : ℕ) (drawn passed : ℕ) (top : Seen) (v : View) : Type 0 where
  -- a seat that waits, is over the limit or is alone is there, and one that holds the value has drawn a ticket
  pub waits_below : v.waits ≤ v.counts
  pub over_below : v.over ≤ v.counts
  pub alone_below : v.alone ≤ v.counts
  pub holds_below : v.holds ≤ v.waits
  -- the ticket of one that waits was drawn and not passed
  pub queued : 0 < v.waits → (passed ≤ v.ticket) × (v.ticket < drawn)
  -- the ticket of one that holds the value is the one that is served, and it took what was last at home
  pub turn : 0 < v.holds → (v.ticket ≡ passed) × (v.out ≡ top)
  -- what it has seen is a prefix of what was last at home
  pub behind : 0 < v.counts → (x : Seen) → Knows v x → IsBefore x top
  pub from : 0 < v.counts → (v.own.journalled ≡ j) × (v.own.committed ≡ c)
  -- it counts appends and commits in its turn alone
  pub at_rest : v.holds ≡ 0 → (v.gained ≡ 0) × (v.settled ≡ 0)
  -- its positions are as many as its appends
  pub listed : length v.own.positions ≡ v.own.appends
  -- one that was joined away has handed its numbers on
  pub gone : v.counts ≡ 0 → (v.own.appends ≡ 0) × (v.own.commits ≡ 0)

-- one of the two comes first
abbrev pub InOrder : Seen → Seen → Type 0
InOrder s t = IsBefore s t ⊎ IsBefore t s

-- What holds of two seats, the i-th and the j-th.
pub record Agree (i j : ℕ) (v w : View) : Type 0 where
  -- no ticket is drawn twice
  pub apart : 0 < v.waits → 0 < w.waits → v.ticket ≡ w.ticket → i ≡ j
  -- of what the two have seen, one comes before the other
  pub chain : 0 < v.counts → 0 < w.counts → (x y : Seen) → Knows v x → Knows w y → InOrder x y
  -- beside a seat that is alone there is none
  pub only : 0 < v.alone → 0 < w.counts → i ≡ j

-- a sum over the seats
abbrev pub total : (View → ℕ) → List View → ℕ
total f [] = 0
total f (v ∷ vs) = f v + total f vs

abbrev pub counts_of : View → ℕ
counts_of v = v.counts

abbrev pub over_of : View → ℕ
over_of v = v.over

abbrev pub waits_of : View → ℕ
waits_of v = v.waits

abbrev pub appends_of : View → ℕ
appends_of v = v.own.appends

abbrev pub commits_of : View → ℕ
commits_of v = v.own.commits

abbrev pub gained_of : View → ℕ
gained_of v = v.gained

abbrev pub settled_of : View → ℕ
settled_of v = v.settled

-- What holds of the appends and the commits: their words are the sums of all seats' own, and with the first value's numbers
-- they give those of the value that was last at home, but for what a seat in the middle of its `leave` has counted.
pub record Tallies (j c : ℕ) (top : Seen) (words : List ℕ) (views : List View) : Type 0 where
  pub appended : slice_index words 3 ≡ total appends_of views
  pub committed : slice_index words 4 ≡ total commits_of views
  pub journal : length top.journal + total gained_of views ≡ j + total appends_of views
  pub commits : top.commits + total settled_of views ≡ c + total commits_of views
  pub long : length top.journal + total gained_of views < 2 ^ 64
  pub high : top.commits + total settled_of views < 2 ^ 64

-- some seat has this ticket
abbrev pub HasTicket : List View → ℕ → Type 0
HasTicket views ticket = (j : ℕ) × (v : View) × (get_elem? views j ≡ some v) × (0 < v.waits) × (v.ticket ≡ ticket)

module _ {T : Type 0} (shows : T → Seen) where
  -- the value is at home, and no seat holds it
  abbrev pub AtHome : List (maybe.Option (Option T)) → Seen → List View → Type 0
  AtHome homes top views = (x : T) × (homes ≡ some (Some x) ∷ []) × (shows x ≡ top) × ((j : ℕ) (v : View) → get_elem? views j ≡ some v → v.holds ≡ 0)

  -- the value is out with a seat
  abbrev pub IsOut : List (maybe.Option (Option T)) → List View → Type 0
  IsOut homes views = (homes ≡ none ∷ []) × ((j : ℕ) × (v : View) × (get_elem? views j ≡ some v) × (0 < v.holds))

  -- the whole rule, where the first value had j entries and c commits
  pub record IsKept (j₀ c₀ : ℕ) (s : State (Option T) View) : Type 0 where
    pub drawn : ℕ
    pub passed : ℕ
    -- what the value that was last at home shows
    pub top : Seen
    pub wide : length s.words ≡ 5
    pub tickets : slice_index s.words 0 ≡ drawn % 2 ^ 64
    pub serving : slice_index s.words 1 ≡ passed % 2 ^ 64
    -- a seat in the middle of its split or its join is counted once more
    pub seats : slice_index s.words 2 ≡ total counts_of s.views + total over_of s.views
    pub limit : total counts_of s.views ≤ 2 ^ 62
    -- the tickets that were drawn and not passed are one for each seat that waits, and each is some seat's
    pub queue : drawn ≡ passed + total waits_of s.views
    pub covered : (t : ℕ) → passed ≤ t → t < drawn → HasTicket s.views t
    pub tally : Tallies j₀ c₀ top s.words s.views
    pub each : (j : ℕ) (v : View) → get_elem? s.views j ≡ some v → Fits j₀ c₀ drawn passed top v
    pub pairs : (i j : ℕ) (v w : View) → get_elem? s.views i ≡ some v → get_elem? s.views j ≡ some w → Agree i j v w
    pub home : AtHome s.homes top s.views ⊎ IsOut s.homes s.views

  -- How the lock ends, as its seat `id` leaves it, which knows v. Either another seat has the ticket that is served, and there
  -- is no value; or no seat waits or holds, and there is the value that was last at home.
  abbrev pub Ends : ℕ → ℕ → ℕ → View → Option T → Type 0
  Ends j₀ c₀ id v found = (s : State (Option T) View) × (k : IsKept j₀ c₀ s) × (get_elem? s.views id ≡ some v)
      × MatchOption found (HasTicket s.views k.passed) (λ x. (shows x ≡ k.top) × ((j : ℕ) (u : View) → get_elem? s.views j ≡ some u → u.waits ≡ 0))

  -- n is the number of seats at a moment at which some seat knew v
  abbrev pub IsSeatCount : ℕ → ℕ → View → ℕ → Type 0
  IsSeatCount j₀ c₀ v n = (s : State (Option T) View) × (k : IsKept j₀ c₀ s) × ((id : ℕ) × (get_elem? s.views id ≡ some v)) × (n ≡ total counts_of s.views + total over_of s.views)
