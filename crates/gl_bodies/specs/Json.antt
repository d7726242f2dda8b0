-- JSON values of bodies (RFC 8259). Whoever lists the members of an object lists them in the order of their keys' bytes; the
-- text of a value is serde_json's compact text.
use Rattle.std.specs.Prelude.{ℕ, ℤ, pos, negsuc, List, [], ◌∷◌, map}
use Rattle.serde_json.specs.Data.{Num, unsigned, negative, Data, number, string, array, object, Members, no_members, member}
use Rattle.serde_json.specs.View.{items_of}

-- a key and its value
abbrev pub Member : Type 0
Member = List ℕ × Data

abbrev pub members_in : List Member → Members
members_in [] = no_members
members_in (m ∷ ms) = member m.0 m.1 (members_in ms)

-- the object of these members
abbrev pub object_of : List Member → Data
object_of members = object (members_in members)

-- the array of the values that these have
abbrev pub list_of : {A : Type 0} → (A → Data) → List A → Data
list_of form xs = array (items_of (map form xs))

abbrev pub text_at : (key : List ℕ) → (text : List ℕ) → Member
text_at key text = (key, string text)

abbrev pub count_at : (key : List ℕ) → (count : ℕ) → Member
count_at key count = (key, number (unsigned count))

abbrev pub whole : ℤ → Num
whole (pos n) = unsigned n
whole (negsuc n) = negative (negsuc n)
