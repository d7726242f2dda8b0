-- Tables of keys and their values, and which table rows make.
use Rattle.std.specs.Prelude.{◌≡◌, ℕ, ◌+◌, not, List, [], ◌∷◌, length, map, fold, Option, Some, None, Result, Ok, Err, nat_lt, ◌==◌, if◌then◌else◌, ⊤}
use Rattle.std.specs.List.{position_from}
use Rattle.std.specs.List.Sorted.{IsStrictlySortedBy}
use Rattle.std.specs.Str.{bytes_eq}
use Rattle.std.specs.Map.{lookup}
use Rattle.std.specs.String.{string_bytes}
use Rattle.std.specs.declared.string.String.{String}
use Rattle.std.specs.BTreeMap.{BTreeMap, insert_entry}
use Rattle.std.specs.Ordering.{nat_cmp}
use Rattle.std.specs.Cmp.Lexicographic.{slice_cmp}
use Rattle.gl_lookup.specs.declared.columns.Columns.{Columns}
use Rattle.gl_lookup.specs.declared.refusal.LookupRefusal.{LookupRefusal}
use Rattle.gl_lookup.specs.declared.refusal.LookupRefusal.TheVariants as refusals
use Rattle.gl_lookup.specs.Rows.{cell}

-- a key and its value
abbrev pub Pair : Type 0
Pair = List ℕ × List ℕ

-- the pairs of a map, in rising order of the keys' bytes
abbrev pub pairs_of : {A B : Type 0} → BTreeMap (String A) (String B) → List Pair
pairs_of values = map (λ entry. (string_bytes entry.0, string_bytes entry.1)) values.entries

-- each key stands there once, before those with later bytes
abbrev pub IsTable : List Pair → Type 0
IsTable table = IsStrictlySortedBy (slice_cmp nat_cmp) (map (λ pair. pair.0) table)

-- what a key stands for in a table
abbrev pub value_of : List ℕ → List Pair → Option (List ℕ)
value_of key table = lookup (λ k. bytes_eq key k) table

-- the table with this value for this key: in place of the one that it has, or else where the key's bytes stand
-- in rising order
abbrev pub with_pair : List Pair → Pair → List Pair
with_pair table pair = insert_entry (slice_cmp nat_cmp) table pair.0 pair.1

-- the place, from 0 on, of the first column of this name
abbrev pub column : List ℕ → List (List ℕ) → Option ℕ
column name names = position_from (λ other. bytes_eq other name) 0 names

-- how many columns there are, and where the keys and the values stand, if both do
abbrev pub columns_by : ℕ → Option ℕ → Option ℕ → Option Columns
columns_by width None value = None
columns_by width (Some key) None = None
columns_by width (Some key) (Some value) = Some (record { width = width; key = key; value = value })

abbrev pub columns_of : List ℕ → List ℕ → List (List ℕ) → Option Columns
columns_of key value names = columns_by (length names) (column key names) (column value names)

abbrev pub pair_of : Columns → List (List ℕ) → Pair
pair_of columns row = (cell columns.key row, cell columns.value row)

-- the first of these rows that is refused, and why; `number` is that of the first of them
abbrev pub first_refusal : ℕ → ℕ → List (List (List ℕ)) → Option LookupRefusal
first_refusal width number [] = None
first_refusal width number (row ∷ rows) =
    if not (length row == width) then Some (refusals.BadCsv number)
    else (if nat_lt 10000 number then Some refusals.TooManyRows
    else first_refusal width (number + 1) rows)

abbrev pub unless : Option LookupRefusal → List Pair → Result (List Pair) LookupRefusal
unless None table = Ok table
unless (Some refusal) table = Err refusal

-- the table with the pairs of these rows put in one after the other, unless one of them is refused
abbrev pub taken : Columns → ℕ → List Pair → List (List (List ℕ)) → Result (List Pair) LookupRefusal
taken columns number table rows =
    unless (first_refusal columns.width number rows) (fold with_pair table (map (pair_of columns) rows))

abbrev pub by_columns : Option Columns → List (List (List ℕ)) → Result (List Pair) LookupRefusal
by_columns None rows = Err refusals.NoColumn
by_columns (Some columns) rows = taken columns 1 [] rows

-- the table of a text's rows, the first of which names the columns
abbrev pub table_of : List ℕ → List ℕ → List (List (List ℕ)) → Result (List Pair) LookupRefusal
table_of key value [] = Err refusals.NoColumn
table_of key value (names ∷ rows) = by_columns (columns_of key value names) rows

-- what was answered is what is expected, unless memory ran out
abbrev pub Answers : {X : Type 0} → (X → List Pair) → Result X LookupRefusal → Result (List Pair) LookupRefusal → Type 0
Answers view (Ok x) expected = expected ≡ Ok (view x)
Answers view (Err (refusals.BadCsv row)) expected = expected ≡ Err (refusals.BadCsv row)
Answers view (Err refusals.NoColumn) expected = expected ≡ Err refusals.NoColumn
Answers view (Err refusals.TooManyRows) expected = expected ≡ Err refusals.TooManyRows
Answers view (Err refusals.OutOfMemory) expected = ⊤
