-- The live indexes and how many rows each has, over the whole list of rows that were stored (this project).
use Rattle.std.specs.Prelude.{ℕ, zero, suc, ◌+◌, nat_lt, if◌then◌else◌, List, [], ◌∷◌, ◌++◌, length, codes}
use Rattle.std.specs.List.{flat_map}
use Rattle.std.specs.Fmt.{decimal}
use Rattle.gl_indexset.specs.declared.row.Row.{Row}
use Rattle.gl_fields.specs.declared.set_rule.SetRule.{SetRule}
use Rattle.gl_indexset.specs.Retention.{Numbered, index_of, newest_number, numbers_of}

-- the name of an index: its set's, `_` and its number
abbrev pub index_name : List ℕ → ℕ → List ℕ
index_name name number = name ++ (codes "_" ++ decimal number)

-- the index of a number with its rows, if it is live
abbrev pub index_if_live : SetRule → List Numbered → ℕ → List (List ℕ × ℕ)
index_if_live rule rows number =
    if nat_lt (newest_number rows) (number + rule.keep) then (index_name rule.name number, length (index_of number rows)) ∷ [] else []

-- the live indexes of the numbers below this one
abbrev pub live_below : SetRule → List Numbered → ℕ → List (List ℕ × ℕ)
live_below rule rows zero = []
live_below rule rows (suc number) = live_below rule rows number ++ index_if_live rule rows number

-- the live indexes of a set, by number; a set without rows has an empty index 0
abbrev pub live_indexes : List Row → SetRule → List (List ℕ × ℕ)
live_indexes all rule = live_below rule (numbers_of rule all) (newest_number (numbers_of rule all) + 1)

-- the live indexes of all sets
abbrev pub summary_of : List SetRule → List Row → List (List ℕ × ℕ)
summary_of rules all = flat_map (live_indexes all) rules
