-- That outcomes are within their bounds is known in one way at most, so that a value may carry it.
use Rattle.std.specs.Prelude.{◌≡◌, ℕ, ◌<◌, true, List, [], ◌∷◌}
use Rattle.std.proofs.Props.{props}
use Rattle.std.specs.List.{All}
use Rattle.gl_fields.specs.declared.field.Field.{Field}
use Rattle.gl_fields.specs.declared.field.FieldRefusal.{FieldRefusal}
use Rattle.gl_fields.specs.declared.value.Value.{Value}
use Rattle.gl_fields.specs.declared.value.Value.TheVariants.{Text, Whole}
use Rattle.gl_fields.specs.declared.entry.Cause.{Cause}
use Rattle.gl_fields.specs.declared.entry.Cause.TheVariants.{NotJson, TooDeep, Compressed, NoShortMessage, TooManyFields, TooLarge}
use Rattle.gl_fields.specs.declared.entry.Outcome.{Outcome}
use Rattle.gl_fields.specs.declared.entry.Outcome.TheVariants.{Applied, Stored, Dropped, Undecodable}
use Rattle.gl_fields.specs.Fields.{IsValue, IsField, IsFieldMap, Rises, comes_before}
use Rattle.gl_fields.specs.Bounds.{IsCause, IsStored, IsOutcome}

IsValue-prop : (v : Value) → IsProp (IsValue v)
IsValue-prop (Text t) = hlevel props
IsValue-prop (Whole n) = hlevel props

FieldRefusal-set : IsSet FieldRefusal
FieldRefusal-set = hlevel props

IsField-prop : (f : Field) → IsProp (IsField f)
IsField-prop f = hlevel (props, IsValue-prop, FieldRefusal-set)

Rises-prop : {X : Type 0} (before : X → X → Type 0) → ((a b : X) → IsProp (before a b)) → (xs : List X) → IsProp (Rises before xs)
Rises-prop before once [] = hlevel props
Rises-prop before once (x ∷ xs) = hlevel (props, once, Rises-prop before once xs)

IsFieldMap-prop : (fields : List Field) → IsProp (IsFieldMap fields)
IsFieldMap-prop fields = hlevel (props, IsField-prop, Rises-prop (λ (a b : Field). comes_before a.name b.name ≡ true) (λ a b. hlevel props) fields)

IsStored-prop : (streams : List ℕ) (fields : List Field) → IsProp (IsStored streams fields)
IsStored-prop streams fields = hlevel (props, IsFieldMap-prop, Rises-prop (λ (a b : ℕ). a < b) (λ a b. hlevel props) streams)

IsCause-prop : (cause : Cause) → IsProp (IsCause cause)
IsCause-prop (NotJson at) = hlevel props
IsCause-prop TooDeep = hlevel props
IsCause-prop Compressed = hlevel props
IsCause-prop NoShortMessage = hlevel props
IsCause-prop TooManyFields = hlevel props
IsCause-prop TooLarge = hlevel props

IsOutcome-prop : (outcome : Outcome) → IsProp (IsOutcome outcome)
IsOutcome-prop Applied = hlevel props
IsOutcome-prop (Stored streams fields) = IsStored-prop streams fields
IsOutcome-prop Dropped = hlevel props
IsOutcome-prop (Undecodable cause) = IsCause-prop cause

pub bounded_once : (outcomes : List Outcome) → IsProp (All IsOutcome outcomes)
bounded_once outcomes = hlevel (props, IsOutcome-prop)
