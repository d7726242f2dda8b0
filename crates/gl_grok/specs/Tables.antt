-- Tables of named patterns.
use Rattle.std.specs.Prelude.{ℕ, Bool, List, [], map, Option, is_some, unwrap_or}
use Rattle.std.specs.Str.{bytes_eq}
use Rattle.std.specs.Map.{lookup}
use Rattle.std.specs.String.{string_bytes}
use Rattle.std.specs.declared.string.String.{String}
use Rattle.std.specs.BTreeMap.{BTreeMap, insert_entry}
use Rattle.std.specs.Ordering.{nat_cmp}
use Rattle.std.specs.Cmp.Lexicographic.{slice_cmp}

-- names and their patterns
abbrev pub Table : Type 0
Table = List (List ℕ × List ℕ)

abbrev pub table_of : {A B : Type 0} → BTreeMap (String A) (String B) → Table
table_of patterns = map (λ entry. (string_bytes entry.0, string_bytes entry.1)) patterns.entries

-- the pattern of a name, if the table has it
abbrev pub pattern_in : Table → List ℕ → Option (List ℕ)
pattern_in table name = lookup (λ key. bytes_eq name key) table

abbrev pub is_known : Table → List ℕ → Bool
is_known table name = is_some (pattern_in table name)

-- the pattern of a name; a name that the table hasn't stands for no text
abbrev pub pattern_of : Table → List ℕ → List ℕ
pattern_of table name = unwrap_or (pattern_in table name) []

-- the table with this pattern for this name: in place of the one that it has, or else where the name's bytes stand
-- in rising order
abbrev pub with_pattern : Table → List ℕ → List ℕ → Table
with_pattern table name pattern = insert_entry (slice_cmp nat_cmp) table name pattern
