-- A pair of a name and a value as a field, and one of gl_json's.
use Rattle.std.specs.Prelude.{ℕ, List, String}
use Rattle.std.specs.declared.alloc.Global.{Global}
use Rattle.std.specs.String.{string_bytes}
use Rattle.gl_fields.specs.declared.field.Field.{Field}
use Rattle.gl_fields.specs.declared.value.Value.{Value}

abbrev pub field_of : List ℕ × Value → Field
field_of p = record { name = p.0; value = p.1 }

abbrev pub field_of_pair : String Global × Value → Field
field_of_pair p = record { name = string_bytes p.0; value = p.1 }
