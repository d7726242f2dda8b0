-- What a set keeps, and what a row changes of it.
use Rattle.std.specs.Prelude.{ℕ, ◌+◌, ◌-◌, ◌≡◌, ◌<◌, ◌≤◌, Bool, false, not, ◌&&◌, ◌||◌, nat_le, ◌==◌, if◌then◌else◌, List, [], ◌∷◌, ◌++◌, length, drop, max, nat_lt, Option, Some, None}
use Rattle.std.specs.List.{list_any}
use Rattle.gl_indexset.specs.declared.row.Row.{Row}
use Rattle.gl_fields.specs.declared.set_rule.SetRule.{SetRule}
use Rattle.gl_indexset.specs.declared.set.Index.{Index}
use Rattle.gl_indexset.specs.Retention.{is_in}
use Rattle.gl_indexset.specs.Summary.{index_name}

pub record SetKept : Type 0 where
  pub rule : SetRule
  pub number : ℕ
  pub newest : Index
  pub closed : List Index
  pub spare : ℕ

abbrev pub begun : ℕ → ℕ → Index
begun position moment = record { first = position; moment = moment; rows = 1 }

abbrev pub is_old : ℕ → ℕ → ℕ → Bool
is_old first max_ms moment = not (max_ms == 0) && nat_le (first + max_ms) moment

abbrev pub is_index_full : SetRule → Index → ℕ → Bool
is_index_full rule index moment = (not (rule.max_docs == 0) && nat_le rule.max_docs index.rows) || is_old index.moment rule.max_ms moment

abbrev pub drop_if : Bool → List Index → List Index
drop_if full closed = if full then drop 1 closed else closed

abbrev pub rotated : Index → SetKept → SetKept
rotated index set = record {
  rule = set.rule;
  number = set.number + 1;
  newest = index;
  closed = drop_if (nat_le set.rule.keep (length set.closed + 1)) (set.closed ++ set.newest ∷ []);
  spare = if nat_le set.rule.keep (length set.closed + 1) then set.spare else set.spare - 1;
}

abbrev pub one_more : Index → Index
one_more index = record { first = index.first; moment = index.moment; rows = index.rows + 1 }

abbrev pub with_newest : Index → SetKept → SetKept
with_newest index set = record { rule = set.rule; number = set.number; newest = index; closed = set.closed; spare = set.spare }

abbrev pub stored : ℕ → ℕ → SetKept → SetKept
stored position moment set =
    if set.newest.rows == 0 then with_newest (begun position moment) set
    else (if is_index_full set.rule set.newest moment then rotated (begun position moment) set
    else with_newest (one_more set.newest) set)

-- the position of the first live row
abbrev pub oldest_after : ℕ → Index → List Index → Option ℕ
oldest_after keep newest [] = if newest.rows == 0 || keep == 0 then None else Some newest.first
oldest_after keep newest (index ∷ closed) = Some index.first

abbrev pub oldest_of : SetKept → Option ℕ
oldest_of set = oldest_after set.rule.keep set.newest set.closed

abbrev pub starts_by : Option ℕ → ℕ → Bool
starts_by None position = false
starts_by (Some first) position = nat_le first position

abbrev pub is_held_by : Row → SetKept → Bool
is_held_by row set = is_in set.rule row && starts_by (oldest_of set) row.position

abbrev pub is_held : List SetKept → Row → Bool
is_held sets row = list_any (is_held_by row) sets

-- a row goes into each set that it names
abbrev pub goes : Row → SetKept → SetKept
goes row set = if is_in set.rule row then stored row.position row.moment set else set

-- the first position at or above one of a row that leaves a set, by where its live rows begin before and after; the limit where none does
abbrev pub first_lost : Option ℕ → Option ℕ → ℕ → ℕ → ℕ
first_lost None after position limit = limit
first_lost (Some before) None position limit = max before position
first_lost (Some before) (Some after) position limit = if nat_lt (max before position) after then max before position else limit

-- the live indexes with their names and rows
abbrev pub named_from : List ℕ → ℕ → List Index → List (List ℕ × ℕ)
named_from name number [] = []
named_from name number (index ∷ indexes) = (index_name name number, index.rows) ∷ named_from name (number + 1) indexes

abbrev pub indexes_kept : SetKept → List (List ℕ × ℕ)
indexes_kept set =
    if set.rule.keep == 0 then [] else named_from set.rule.name (set.number - length set.closed) (set.closed ++ set.newest ∷ [])

-- the first positions of these indexes rise, from one position up and to another
abbrev pub IsLined : ℕ → List Index → ℕ → Type 0
IsLined low [] high = low ≤ high
IsLined low (index ∷ indexes) high = (low ≤ index.first) × IsLined index.first indexes high

-- What holds of a set whose rows all stand below a position.
pub record IsSetSound (position : ℕ) (set : SetKept) : Type 0 where
  pub above : set.newest.first + set.newest.rows ≤ position
  pub number : set.number ≤ set.newest.first
  pub closed : length set.closed ≤ set.number
  pub lined : IsLined 0 set.closed set.newest.first
  pub starts : set.newest.rows ≡ 0 → (set.number ≡ 0) × (set.closed ≡ [])

-- a row at this position may be stored
pub record IsReadyFor (position : ℕ) (set : SetKept) : Type 0 where
  pub spare : 0 < set.spare
  pub sound : IsSetSound position set

-- the same, with room for no fewer indexes
pub record IsRoomier (old new : SetKept) : Type 0 where
  pub same : new ≡ record { rule = old.rule; number = old.number; newest = old.newest; closed = old.closed; spare = new.spare }
  pub spare : old.spare ≤ new.spare

abbrev pub AreRoomier : List SetKept → List SetKept → Type 0
AreRoomier [] [] = Unit {0}
AreRoomier [] (new ∷ news) = ⊥
AreRoomier (old ∷ olds) [] = ⊥
AreRoomier (old ∷ olds) (new ∷ news) = IsRoomier old new × AreRoomier olds news
