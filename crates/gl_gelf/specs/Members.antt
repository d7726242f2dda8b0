-- The members of a GELF message under the names that they say, of which equal ones count once: the last counts, at its
-- own place.
use Rattle.std.specs.Prelude.{ℕ, Bool, not, List, [], ◌∷◌, if◌then◌else◌, Option, Some, None}
use Rattle.std.specs.List.{list_any}
use Rattle.std.specs.Str.{bytes_eq}
use Rattle.gl_json.specs.Grammar.{Value, Pair}
use Rattle.gl_json.specs.Escapes.{said}

-- a member under the name that it says
abbrev pub with_said_name : Pair → Pair
with_said_name m = record { name = said m.name; value = m.value }

-- no later member has the name
abbrev pub has_name : List ℕ → Pair → Bool
has_name name m = bytes_eq m.name name

-- the members that count: those whose name no later one has
unfoldable pub counted : List Pair → List Pair
counted [] = []
counted (m ∷ ms) = if list_any (has_name m.name) ms then counted ms else m ∷ counted ms

-- of each member, whether it counts
unfoldable pub are_last : List Pair → List Bool
are_last [] = []
are_last (m ∷ ms) = not (list_any (has_name m.name) ms) ∷ are_last ms

-- what the last member of this name holds, behind members of which the last one held `found`
unfoldable pub last_value : List ℕ → Option Value → List Pair → Option Value
last_value name found [] = found
last_value name found (m ∷ ms) = last_value name (if has_name name m then Some m.value else found) ms

abbrev pub value_named : List ℕ → List Pair → Option Value
value_named name ms = last_value name None ms
