-- What a part of decoding answers, beside its definition: memory alone is free. Between private functions alone.
use Rattle.std.specs.Prelude.{◌≡◌, ⊤, ℕ, List, Result, Ok, Err}
use Rattle.std.specs.List.{fold}
use Rattle.std.specs.Cow.{cow_str_bytes}
use Rattle.gl_fields.specs.declared.entry.Cause.{Cause}
use Rattle.gl_fields.specs.declared.field.Field.{Field}
use Rattle.gl_fields.specs.Putting.{then_put}
use Rattle.gl_json.specs.declared.refusal.JsonRefusal.{JsonRefusal}
use Rattle.gl_json.specs.declared.refusal.JsonRefusal.TheVariants as json
use Rattle.gl_json.specs.Places.{object_of}
use Rattle.gl_json.specs.Grammar.{Pair}
use Rattle.gl_json.specs.Views.{value_view}
use Rattle.gl_gelf.specs.declared.members.Named.{Named}

-- these fields put into a map
unfoldable pub put_all : List Field → List Field → Result (List Field) Cause
put_all more fields = fold then_put (Ok fields) more

-- a member as the code holds it
abbrev pub named_view : Named → Pair
named_view n = record { name = cow_str_bytes n.name; value = value_view n.value }

-- a text is refused so, unless memory ran out
abbrev pub IsRefusalOf : JsonRefusal → List ℕ → Type 0
IsRefusalOf (json.NotJson at) bytes = object_of bytes ≡ Err (json.NotJson at)
IsRefusalOf json.TooDeep bytes = object_of bytes ≡ Err json.TooDeep
IsRefusalOf json.OutOfMemory bytes = ⊤
