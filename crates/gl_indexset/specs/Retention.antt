-- Index numbers, and which rows are live, over the whole list of rows that were stored (this project).
-- Lists of rows have the newest first, but for the live rows, which come in order of position.
use Rattle.std.specs.Prelude.{ℕ, ◌+◌, Bool, not, ◌&&◌, ◌||◌, nat_le, nat_lt, ◌==◌, if◌then◌else◌, List, [], ◌∷◌, ◌++◌, length, filter}
use Rattle.std.specs.List.{list_any}
use Rattle.std.specs.Str.{bytes_eq}
use Rattle.gl_fields.specs.Fields.{comes_before}
use Rattle.gl_indexset.specs.declared.row.Row.{Row}
use Rattle.gl_fields.specs.declared.set_rule.SetRule.{SetRule}

-- rules in order of their names' bytes, with one more
abbrev pub with_rule : SetRule → List SetRule → List SetRule
with_rule rule [] = rule ∷ []
with_rule rule (first ∷ rest) = if comes_before rule.name first.name then rule ∷ (first ∷ rest) else first ∷ with_rule rule rest

-- the row names the set
abbrev pub is_in : SetRule → Row → Bool
is_in rule row = list_any (λ name. bytes_eq name rule.name) row.sets

abbrev pub rows_of : SetRule → List Row → List Row
rows_of rule rows = filter (is_in rule) rows

-- a row of a set, and the number of its index
pub record Numbered : Type 0 where
  pub number : ℕ
  pub row : Row

-- the rows of an index
abbrev pub index_of : ℕ → List Numbered → List Numbered
index_of number rows = filter (λ row. row.number == number) rows

-- when the first of these rows was received
abbrev pub first_moment : List Numbered → ℕ
first_moment [] = 0
first_moment (row ∷ []) = row.row.moment
first_moment (row ∷ (last ∷ before)) = first_moment (last ∷ before)

-- a row of this moment doesn't go into an index that has these rows
abbrev pub is_full : SetRule → List Numbered → ℕ → Bool
is_full rule rows moment =
    (not (rule.max_docs == 0) && nat_le rule.max_docs (length rows))
    || (not (rule.max_ms == 0) && nat_le (first_moment rows + rule.max_ms) moment)

-- the index number of a row of this moment, the rows of the set before it being these
abbrev pub number_after : SetRule → List Numbered → ℕ → ℕ
number_after rule [] moment = 0
number_after rule (last ∷ before) moment =
    if is_full rule (index_of last.number (last ∷ before)) moment then last.number + 1 else last.number

-- the numbered rows of a set with one more behind them
abbrev pub numbered_onto : SetRule → Row → List Numbered → List Numbered
numbered_onto rule row before = record { number = number_after rule before row.moment; row = row } ∷ before

-- the rows of a set with their index numbers
abbrev pub numbered : SetRule → List Row → List Numbered
numbered rule [] = []
numbered rule (row ∷ before) = numbered_onto rule row (numbered rule before)

abbrev pub newest_number : List Numbered → ℕ
newest_number [] = 0
newest_number (last ∷ before) = last.number

abbrev pub numbers_of : SetRule → List Row → List Numbered
numbers_of rule rows = numbered rule (rows_of rule rows)

-- of all rows, this one, before which these come, is live in the set
abbrev pub is_live_in : List Row → List Row → Row → SetRule → Bool
is_live_in all before row rule =
    is_in rule row
    && nat_lt (newest_number (numbers_of rule all)) (number_after rule (numbers_of rule before) row.moment + rule.keep)

-- of all rows, those of these that are live in one of their sets, each once, in order of position
abbrev pub live_among : List SetRule → List Row → List Row → List Row
live_among rules all [] = []
live_among rules all (row ∷ before) =
    live_among rules all before ++ (if list_any (is_live_in all before row) rules then row ∷ [] else [])

abbrev pub live_rows : List SetRule → List Row → List Row
live_rows rules rows = live_among rules rows rows
