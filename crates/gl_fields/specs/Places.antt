-- The place of a name in a map, and the lengths of its fields.
use Rattle.std.specs.Prelude.{◌≡◌, ℕ, ◌+◌, ◌^◌, ◌<◌, ◌≤◌, true, List, length, take, drop, nat_lt, if◌then◌else◌, Option, Some, None, Result, Ok, Err, MatchResult}
use Rattle.std.specs.List.{All, HoldsAt}
use Rattle.gl_fields.specs.declared.field.Field.{Field}
use Rattle.gl_fields.specs.declared.field.FieldRefusal.{FieldRefusal}
use Rattle.gl_fields.specs.Fields.{comes_before, counted_size, refusal_of, value_text, with_field}

-- Fields of earlier names stand before the place `at`, fields of later names from `next` on.
pub record Parts (name : List ℕ) (fields : List Field) (at next : ℕ) : Type 0 where
  pub within : next ≤ length fields
  pub earlier : All (λ (field : Field). comes_before field.name name ≡ true) (take at fields)
  pub later : All (λ (field : Field). comes_before name field.name ≡ true) (drop next fields)

-- the index of the field of this name, or else the index where it would stand
abbrev pub IsPlaceOf : List ℕ → List Field → Result ℕ ℕ → Type 0
IsPlaceOf name fields place = MatchResult place
    (λ at. Parts name fields at (at + 1) × HoldsAt (λ (field : Field). field.name ≡ name) fields at)
    (λ at. Parts name fields at at)

-- a field whose lengths fit the bytes that say them
pub record HasLengths (field : Field) : Type 0 where
  pub name : length field.name < 256
  pub text : length (value_text field.value) < 2 ^ 32

-- a size, unless it is too large
abbrev pub size_within : ℕ → Option ℕ
size_within size = if nat_lt 2097152 size then None else Some size

abbrev pub unless_refused : Option FieldRefusal → ℕ → Result ℕ FieldRefusal
unless_refused None size = Ok size
unless_refused (Some cause) size = Err cause

-- the size of the map with this field, or why the field isn't put in
abbrev pub size_with : Field → List Field → Result ℕ FieldRefusal
size_with field fields = unless_refused (refusal_of field fields) (counted_size (with_field field fields))
