-- Values and members as the code holds them, seen as those of the grammar.
use Rattle.std.specs.Prelude.{ℕ, List, String}
use Rattle.std.specs.declared.alloc.Global.{Global}
use Rattle.std.specs.String.{string_bytes}
use Rattle.gl_fields.specs.declared.value.Value.{Value as Field}
use Rattle.gl_json.specs.Grammar.{Value, text, number, yes_, no_, null, object, array, Pair}
use Rattle.gl_json.specs.declared.value.Raw.{Raw}
use Rattle.gl_json.specs.declared.value.Raw.TheVariants as raw
use Rattle.gl_json.specs.declared.value.Member.{Member}

abbrev pub value_view : Raw → Value
value_view (raw.Text t) = text t.now
value_view (raw.Number t) = number t.now
value_view raw.True = yes_
value_view raw.False = no_
value_view raw.Null = null
value_view (raw.Object t) = object t.now
value_view (raw.Array t) = array t.now

abbrev pub pair_view : Member → Pair
pair_view m = record { name = m.name.now; value = value_view m.value }

abbrev pub field_view : String Global × Field → List ℕ × Field
field_view p = (string_bytes p.0, p.1)
