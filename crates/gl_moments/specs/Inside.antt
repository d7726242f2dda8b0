-- How the index keeps the positions of each minute's rows.
use Rattle.std.specs.Prelude.{◌≡◌, ℕ, ◌*◌, ◌<◌, ◌≤◌, ◌==◌, List, [], if◌then◌else◌}
use Rattle.std.specs.BTreeMap.{BTreeMap, get}
use Rattle.std.specs.Option.{unwrap_or}
use Rattle.std.specs.Ordering.{nat_cmp}
use Rattle.gl_indexset.specs.declared.row.Row.{Row}
use Rattle.gl_indexset.specs.Rising.{AreRising}
use Rattle.gl_moments.specs.Minutes.{rows_of}
use Rattle.gl_words.specs.Candidates.{positions}

-- the positions that are kept of a minute
abbrev pub kept_at : BTreeMap ℕ (List ℕ) → ℕ → List ℕ
kept_at minutes minute = unwrap_or (get nat_cmp minutes minute) []

-- Of each minute the positions of its rows are kept; the rows rise by position.
pub record AreKept (kept : ℕ → List ℕ) (rows : List Row) : Type 0 where
  pub rising : AreRising rows
  pub minutes : (minute : ℕ) → kept minute ≡ positions (rows_of minute rows)

-- What is kept of one minute is changed, and what is kept of others stays.
abbrev pub Changes : (List ℕ → List ℕ) → ℕ → (before after : ℕ → List ℕ) → Type 0
Changes change minute before after = (m : ℕ) → after m ≡ (if minute == m then change (before m) else before m)

-- From one minute on, this is the first of which positions are kept, and these are they.
pub record IsFirst (kept : ℕ → List ℕ) (low minute : ℕ) (found : List ℕ) : Type 0 where
  pub above : low ≤ minute
  pub theirs : found ≡ kept minute
  pub none : (m : ℕ) → low ≤ m → m < minute → kept m ≡ []

-- The same of a minute that begins before a moment.
pub record IsNext (kept : ℕ → List ℕ) (low to minute : ℕ) (found : List ℕ) : Type 0 where
  pub first : IsFirst kept low minute found
  pub begins : minute * 60000 < to
