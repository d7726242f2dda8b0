-- No outcome is longer than a record of a log may be.
use Rattle.std.proofs.Common.{◌≡◌, ℕ, ◌+◌, ◌*◌, ◌^◌, ◌≤◌, Bool, true, false, cond, ltb, List, [], ◌∷◌, length, map, refl, arith, length-append}
use Rattle.std.specs.List.{All, flat_map}
use Rattle.std.specs.Int.{to_be_bytes, w16, w32, w64, cast_unsigned}
use Rattle.std.proofs.lemmas.Bool.Decides.{nat_tests}
use Rattle.std.proofs.lemmas.List.Elements.{All-head, All-tail}
use Rattle.std.proofs.lemmas.List.Sums.{sum_by-cons}
use Rattle.gl_gatelog.specs.View.{has_long}
use Rattle.gl_fields.specs.declared.field.Field.{Field}
use Rattle.gl_fields.specs.declared.value.Value.{Value}
use Rattle.gl_fields.specs.declared.value.Value.TheVariants.{Text, Whole}
use Rattle.gl_fields.specs.declared.entry.Cause.{Cause}
use Rattle.gl_fields.specs.declared.entry.Cause.TheVariants.{NotJson, TooDeep, Compressed, NoShortMessage, TooManyFields, TooLarge}
use Rattle.gl_fields.specs.declared.entry.Outcome.{Outcome}
use Rattle.gl_fields.specs.declared.entry.Outcome.TheVariants.{Applied, Stored, Dropped, Undecodable}
use Rattle.gl_fields.specs.Fields.{value_text, field_size, counted_size}
use Rattle.gl_fields.specs.Outcomes.{value_bytes, field_bytes, cause_bytes, outcome_bytes}
use Rattle.gl_fields.specs.Bounds.{IsStored, IsOutcome}

two_bytes : (n : ℕ) → length (to_be_bytes w16 n) ≡ 2
two_bytes n = refl

four_bytes : (n : ℕ) → length (to_be_bytes w32 n) ≡ 4
four_bytes n = refl

eight_bytes : (n : ℕ) → length (to_be_bytes w64 n) ≡ 8
eight_bytes n = refl

value_len : (v : Value) → length (value_bytes v) ≤ 9 + length (value_text v)
value_len (Text text) = omega (arith, length-append (to_be_bytes w32 (length text)) text, four_bytes (length text))
value_len (Whole number) = omega (arith, eight_bytes (cast_unsigned w64 number))

field_len : (f : Field) → length (field_bytes f) ≤ 10 + field_size f
field_len f = omega (arith, length-append (length f.name ∷ f.name) (value_bytes f.value), value_len f.value)

fields_len : (fields : List Field) → length (flat_map field_bytes fields) ≤ 10 * length fields + counted_size fields
fields_len [] = omega arith
fields_len (f ∷ fields) = omega (arith, length-append (field_bytes f) (flat_map field_bytes fields), field_len f, fields_len fields, sum_by-cons field_size f fields)

streams_len : (streams : List ℕ) → length (flat_map (λ id. to_be_bytes w64 id) streams) ≡ 8 * length streams
streams_len [] = refl
streams_len (id ∷ streams) = omega (arith, length-append (to_be_bytes w64 id) (flat_map (λ i. to_be_bytes w64 i) streams), eight_bytes id, streams_len streams)

cause_len : (cause : Cause) → length (cause_bytes cause) ≤ 5
cause_len (NotJson at) = omega (arith, four_bytes at)
cause_len TooDeep = omega arith
cause_len Compressed = omega arith
cause_len NoShortMessage = omega arith
cause_len TooManyFields = omega arith
cause_len TooLarge = omega arith

stored_len : (streams : List ℕ) (fields : List Field) → IsStored streams fields → length (outcome_bytes (Stored streams fields)) ≤ 2 ^ 22
stored_len streams fields is = simp length-append (omega (arith, streams_len streams, fields_len fields, is.few, is.map.few, is.map.short))

outcome_len : (outcome : Outcome) → IsOutcome outcome → length (outcome_bytes outcome) ≤ 2 ^ 22
outcome_len Applied is = omega arith
outcome_len (Stored streams fields) is = stored_len streams fields is
outcome_len Dropped is = omega arith
outcome_len (Undecodable cause) is = omega (arith, cause_len cause)

long_cons : (n : ℕ) (b : Bool) → n ≤ 2 ^ 22 → b ≡ false → cond (ltb (2 ^ 22) n) true b ≡ false
long_cons n b le rest = grind (arith, nat_tests)

pub none_long : (outcomes : List Outcome) → All IsOutcome outcomes → has_long (map outcome_bytes outcomes) ≡ false
none_long [] all = refl
none_long (o ∷ outcomes) all =
    long_cons (length (outcome_bytes o)) (has_long (map outcome_bytes outcomes)) (outcome_len o (All-head IsOutcome o outcomes all)) (none_long outcomes (All-tail IsOutcome o outcomes all))
