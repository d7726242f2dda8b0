-- Fields that are put into a map one after the other, by those who decode messages.
use Rattle.std.specs.Prelude.{◌≡◌, ℕ, ℤ, List, [], Option, Some, None, Result, Ok, Err, ⊤}
use Rattle.std.specs.List.{fold}
use Rattle.gl_fields.specs.declared.entry.Cause.{Cause}
use Rattle.gl_fields.specs.declared.entry.Cause.TheVariants.{TooManyFields, TooLarge}
use Rattle.gl_fields.specs.declared.field.Field.{Field}
use Rattle.gl_fields.specs.declared.field.FieldRefusal.{FieldRefusal}
use Rattle.gl_fields.specs.declared.field.FieldRefusal.TheVariants as refused
use Rattle.gl_fields.specs.declared.fault.DecodeFault.{DecodeFault}
use Rattle.gl_fields.specs.declared.fault.DecodeFault.TheVariants.{Undecodable, OutOfMemory}
use Rattle.gl_fields.specs.declared.value.Value.TheVariants.{Text, Whole}
use Rattle.gl_fields.specs.Fields.{with_field, refusal_of}

abbrev pub text_field : List ℕ → List ℕ → Field
text_field name text = record { name = name; value = Text text }

abbrev pub whole_field : List ℕ → ℤ → Field
whole_field name number = record { name = name; value = Whole number }

-- a field put into a map, or the cause that a refusal gives
abbrev pub put_or_cause : Field → List Field → Option FieldRefusal → Result (List Field) Cause
put_or_cause field fields None = Ok (with_field field fields)
put_or_cause field fields (Some refused.TooManyFields) = Err TooManyFields
put_or_cause field fields (Some refusal) = Err TooLarge

abbrev pub then_put : Result (List Field) Cause → Field → Result (List Field) Cause
then_put (Err cause) field = Err cause
then_put (Ok fields) field = put_or_cause field fields (refusal_of field fields)

-- the map with these fields put in, in order, or the first cause
abbrev pub map_with : List Field → Result (List Field) Cause
map_with fields = fold then_put (Ok []) fields

-- the fault that a map's refusal gives
abbrev pub fault_of : FieldRefusal → DecodeFault
fault_of refused.OutOfMemory = OutOfMemory
fault_of refused.TooManyFields = Undecodable TooManyFields
fault_of refused.BadFieldName = Undecodable TooLarge
fault_of refused.TooLarge = Undecodable TooLarge
fault_of refused.Reserved = Undecodable TooLarge

-- this fault is the cause that is defined, or memory was wanting
abbrev pub Fails : Result (List Field) Cause → DecodeFault → Type 0
Fails defined (Undecodable cause) = defined ≡ Err cause
Fails defined OutOfMemory = ⊤

-- the answer is the map or the cause that is defined, or memory was wanting
abbrev pub IsDecoded : Result (List Field) Cause → Result (List Field) DecodeFault → Type 0
IsDecoded defined (Ok fields) = defined ≡ Ok fields
IsDecoded defined (Err fault) = Fails defined fault

-- the same of a call that leaves these fields
abbrev pub IsPut : {X : Type 0} → Result (List Field) Cause → Result X DecodeFault → List Field → Type 0
IsPut defined (Ok x) fields = defined ≡ Ok fields
IsPut defined (Err fault) fields = Fails defined fault
