-- Index sets with the words of their live rows.
use Rattle.std.specs.Prelude.{◌≡◌, ℕ, ◌<◌, ◌≤◌, ◌-◌, ◌^◌, ◌==◌, not, List, ◌++◌, length, filter, reverse}
use Rattle.std.specs.List.{All}
use Rattle.gl_fields.specs.declared.set_rule.SetRule.{SetRule}
use Rattle.gl_indexset.specs.declared.row.Row.{Row}
use Rattle.gl_indexset.specs.Kept.{Kept, AreKnown, rules_of, spare_of}
use Rattle.gl_indexset.specs.Kept as kept_sets
use Rattle.gl_indexset.specs.Retention.{live_rows}
use Rattle.gl_indexset.specs.Rising.{AreRising}
use Rattle.gl_postings.specs.declared.postings.Postings.{Postings}
use Rattle.gl_postings.specs.Postings as kept_words
use Rattle.gl_postings.specs.declared.indexed.Indexed.{Indexed}

-- the rules of the sets
abbrev pub rules_in : Indexed → List SetRule
rules_in index = rules_of index.sets

-- all rows that were stored are below this position
abbrev pub next_in : Indexed → ℕ
next_in index = index.sets.next

-- the rows that go into some set; the others are never live
abbrev pub filed : List Row → List Row
filed rows = filter (λ row. not (length row.sets == 0)) rows

-- Sets with these rules, each of which keeps an index at least, and of all these rows that were stored, the newest first.
pub record SetsStand (sets : Kept) (rules : List SetRule) (all : List Row) : Type 0 where
  pub rules_are : rules_of sets ≡ rules
  pub keep : All (λ (rule : SetRule). 0 < rule.keep) rules
  pub rows : kept_sets.StandsFor sets all

-- These sets, and the words of those rows that are live.
pub record IndexStands (index : Indexed) (rules : List SetRule) (all : List Row) : Type 0 where
  pub sets : SetsStand index.sets rules all
  pub words : kept_words.StandsFor index.words (live_rows rules all)

-- Rows that may be stored one after another behind those of before: their positions rise, and their sets are there.
pub record MayCome (sets : Kept) (more : List Row) : Type 0 where
  pub rising : AreRising more
  pub above : All (λ (row : Row). sets.next ≤ row.position) more
  pub counted : All (λ (row : Row). row.position < 2 ^ 64 - 1) more
  pub known : All (λ (row : Row). AreKnown (rules_of sets) row.sets) more

abbrev pub MayFollow : Indexed → List Row → Type 0
MayFollow index more = MayCome index.sets more

-- Sets and the words of their live rows and of these more, for which there is room: they are about to be stored, in this order.
pub record IsReady (kept : Kept) (held : Postings) (rules : List SetRule) (all more : List Row) : Type 0 where
  pub sets : SetsStand kept rules all
  pub words : kept_words.StandsFor held (live_rows rules all ++ filed more)
  pub room : length more ≤ spare_of kept
  pub come : MayCome kept more

abbrev pub IsPrepared : Indexed → List SetRule → (all more : List Row) → Type 0
IsPrepared index rules all more = IsReady index.sets index.words rules all more

-- all rows once these were stored, the newest first
abbrev pub stored : List Row → List Row → List Row
stored more all = reverse more ++ all
