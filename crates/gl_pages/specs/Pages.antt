-- What a search finds among messages, in which order, and the page that is cut from it (this project). No index is in it.
use Rattle.std.specs.Prelude.{ℕ, ◌==◌, Bool, ◌&&◌, ℤ, pos, int_le, int_lt, List, [], ◌∷◌, filter, take, drop, if◌then◌else◌, Option, Some, None, codes}
use Rattle.std.specs.List.{list_any}
use Rattle.gl_fields.specs.declared.field.Field.{Field}
use Rattle.gl_fields.specs.declared.value.Value.{Value}
use Rattle.gl_fields.specs.declared.value.Value.TheVariants.{Text, Whole}
use Rattle.gl_fields.specs.Fields.{value_of}
use Rattle.gl_query.specs.Matching.{holds}
use Rattle.gl_query.specs.Tree.{Tree}
use Rattle.gl_pages.specs.declared.ask.Ask.{Ask}

-- the time that a field's value tells; none, and a text, tell 0
abbrev pub time_in : Option Value → ℤ
time_in None = pos 0
time_in (Some (Text text)) = pos 0
time_in (Some (Whole number)) = number

-- a message's time in milliseconds since 1970
abbrev pub time_of : List Field → ℤ
time_of fields = time_in (value_of (codes "timestamp") fields)

-- at or after the one moment and before the other
abbrev pub is_between : ℕ → ℕ → ℤ → Bool
is_between from to time = int_le (pos from) time && int_lt time (pos to)

abbrev pub is_chosen : List ℕ → ℕ → Bool
is_chosen chosen id = list_any (λ other. other == id) chosen

-- one of these streams is among those chosen
abbrev pub one_chosen : List ℕ → List ℕ → Bool
one_chosen chosen streams = list_any (is_chosen chosen) streams

-- a search finds a message that stands in these streams and has these fields
abbrev pub finds : Ask → Tree → List ℕ → List Field → Bool
finds ask query streams fields = one_chosen ask.chosen streams && is_between ask.from ask.to (time_of fields) && holds query fields

-- among those in order, before the first whose number isn't smaller
abbrev pub put_by : {A : Type 0} → (A → ℤ) → A → List A → List A
put_by number x [] = x ∷ []
put_by number x (y ∷ ys) = if int_le (number x) (number y) then x ∷ (y ∷ ys) else y ∷ put_by number x ys

-- in order of their numbers, and those of one number as they stood
abbrev pub in_order : {A : Type 0} → (A → ℤ) → List A → List A
in_order number [] = []
in_order number (x ∷ xs) = put_by number x (in_order number xs)

-- the page of what was found
abbrev pub cut : {A : Type 0} → Ask → List A → List A
cut ask found = take ask.limit (drop ask.offset found)

-- what a search finds among messages, of which each has streams and fields: by time, and those of one time as they stood
abbrev pub found_by : {A : Type 0} → (A → List ℕ) → (A → List Field) → Ask → Tree → List A → List A
found_by streams_of fields_of ask query messages =
    in_order (λ message. time_of (fields_of message)) (filter (λ message. finds ask query (streams_of message) (fields_of message)) messages)
