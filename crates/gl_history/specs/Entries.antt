-- What contracts see of the entries of a map that are still to come.
use Rattle.std.specs.Prelude.{ℕ, List, map}
use Rattle.std.specs.String.{string_bytes}
use Rattle.std.specs.declared.string.String.{String}

abbrev pub entries_of : {A X : Type 0} → List (String A × X) → List (List ℕ × X)
entries_of entries = map (λ entry. (string_bytes entry.0, entry.1)) entries
