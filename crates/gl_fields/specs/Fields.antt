-- Values, and the map of a message's fields as the list of its fields in rising order of the names' bytes.
use Rattle.std.specs.Prelude.{◌≡◌, ℕ, ◌+◌, ◌≤◌, ◌≤ℤ◌, pos, negsuc, ⊤, Bool, true, false, not, ◌&&◌, ◌||◌, List, [], ◌∷◌, ◌++◌, length, nat_lt, ◌==◌, sum_by, filter, if◌then◌else◌, Option, Some, None, is_some, Result, Ok, Err, codes}
use Rattle.std.specs.Ordering.{nat_cmp}
use Rattle.std.specs.List.{All, list_all, list_any}
use Rattle.std.specs.Int.{is_in_range}
use Rattle.std.specs.Fmt.{signed_decimal}
use Rattle.std.specs.Str.{bytes_eq, IsUtf8}
use Rattle.std.specs.Cmp.Lexicographic.{slice_cmp}
use Rattle.std.specs.declared.cmp.Ordering.{Ordering}
use Rattle.std.specs.declared.cmp.Ordering.TheVariants.{Less, Equal, Greater}
use Rattle.gl_fields.specs.declared.field.Field.{Field}
use Rattle.gl_fields.specs.declared.value.Value.{Value}
use Rattle.gl_fields.specs.declared.value.Value.TheVariants.{Text, Whole}
use Rattle.gl_fields.specs.declared.field.FieldRefusal.{FieldRefusal}
use Rattle.gl_fields.specs.declared.field.FieldRefusal.TheVariants.{BadFieldName, TooManyFields, TooLarge, Reserved}

-- the text of a value: of a whole number its decimal, with `-` where negative
abbrev pub value_text : Value → List ℕ
value_text (Text text) = text
value_text (Whole number) = signed_decimal number

abbrev pub is_less : Ordering → Bool
is_less Less = true
is_less Equal = false
is_less Greater = false

-- the first name comes before the second, byte by byte
abbrev pub comes_before : List ℕ → List ℕ → Bool
comes_before name other = is_less (slice_cmp nat_cmp name other)

abbrev pub is_name_byte : ℕ → Bool
is_name_byte b = is_in_range 97 122 b || (is_in_range 65 90 b || (is_in_range 48 57 b
    || list_any (λ sign. sign == b) (codes "_.-")))

-- 1 to 255 letters, digits, `_`, `.` and `-`, and not `_id`
abbrev pub is_field_name : List ℕ → Bool
is_field_name name = nat_lt 0 (length name) && nat_lt (length name) 256 && list_all is_name_byte name
    && not (bytes_eq name (codes "_id"))

-- the fields of this name: one or none
abbrev pub named : List ℕ → List Field → List Field
named name fields = filter (λ field. bytes_eq field.name name) fields

abbrev pub first_value : List Field → Option Value
first_value [] = None
first_value (field ∷ fields) = Some field.value

-- what the field of this name holds
abbrev pub value_of : List ℕ → List Field → Option Value
value_of name fields = first_value (named name fields)

-- the map with this field put in, or in the place of the field of its name
abbrev pub with_field : Field → List Field → List Field
with_field field fields = filter (λ other. comes_before other.name field.name) fields
    ++ field ∷ filter (λ other. comes_before field.name other.name) fields

-- the bytes that are counted of a field, and of a map
abbrev pub field_size : Field → ℕ
field_size field = length field.name + length (value_text field.value)

abbrev pub counted_size : List Field → ℕ
counted_size fields = sum_by field_size fields

abbrev pub is_text : Value → Bool
is_text (Text text) = true
is_text (Whole number) = false

-- why a field isn't put into a map, the first cause that holds
abbrev pub refusal_of : Field → List Field → Option FieldRefusal
refusal_of field fields =
    if not (is_field_name field.name) then Some BadFieldName
    else (if bytes_eq field.name (codes "timestamp") && is_text field.value then Some Reserved
    else (if nat_lt 256 (length (with_field field fields)) then Some TooManyFields
    else (if nat_lt 2097152 (counted_size (with_field field fields)) then Some TooLarge
    else None)))

-- A field that is taken away, and one that gets another name.

-- the map without the field of this name
abbrev pub without : List ℕ → List Field → List Field
without name fields = filter (λ field. not (bytes_eq field.name name)) fields

-- the fields that each message has are never taken away
abbrev pub stays : List ℕ → Bool
stays name = bytes_eq name (codes "message") || (bytes_eq name (codes "source") || bytes_eq name (codes "timestamp"))

-- whether the field to be taken away was there, or why it isn't taken away
abbrev pub removal : List ℕ → List Field → Result Bool FieldRefusal
removal name fields = if not (is_some (value_of name fields)) then Ok false else (if stays name then Err Reserved else Ok true)

-- the map with this value under the new name, and without the old one
abbrev pub moved : List ℕ → List ℕ → List Field → Option Value → List Field
moved from to fields None = fields
moved from to fields (Some value) = with_field (record { name = to; value = value }) (without from fields)

abbrev pub renamed : List ℕ → List ℕ → List Field → List Field
renamed from to fields = moved from to fields (value_of from fields)

abbrev pub refused : Option FieldRefusal → Option (Result Bool FieldRefusal)
refused None = None
refused (Some cause) = Some (Err cause)

abbrev pub settled_by : List ℕ → List ℕ → List Field → Option Value → Option (Result Bool FieldRefusal)
settled_by from to fields None = Some (Ok false)
settled_by from to fields (Some value) =
    if bytes_eq from to then Some (Ok true)
    else (if stays from then Some (Err Reserved)
    else refused (refusal_of (record { name = to; value = value }) (without from fields)))

-- the answer to a rename that moves no field: the field isn't there, has the new name already, or is refused by
-- the first cause that holds
abbrev pub settled : List ℕ → List ℕ → List Field → Option (Result Bool FieldRefusal)
settled from to fields = settled_by from to fields (value_of from fields)

-- The invariant of a map: lawful fields by strictly rising names, not too many and not too large.

-- a text is UTF-8, and a whole number has 64 bits, one of them for the sign
abbrev pub IsValue : Value → Type 0
IsValue (Text text) = IsUtf8 text
IsValue (Whole number) = (negsuc 9223372036854775807 ≤ℤ number) × (number ≤ℤ pos 9223372036854775807)

-- a field that the empty map takes
pub record IsField (field : Field) : Type 0 where
  pub value : IsValue field.value
  pub taken : refusal_of field [] ≡ None

-- each element stands in this relation to each later one
abbrev pub Rises : {X : Type 0} → (X → X → Type 0) → List X → Type 0
Rises before [] = ⊤
Rises before (x ∷ xs) = All (before x) xs × Rises before xs

pub record IsFieldMap (fields : List Field) : Type 0 where
  pub each : All IsField fields
  pub rises : Rises (λ (a b : Field). comes_before a.name b.name ≡ true) fields
  pub few : length fields ≤ 256
  pub short : counted_size fields ≤ 2097152
