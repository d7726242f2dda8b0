-- Parts of what keeps an outcome within its bounds (this project).
use Rattle.std.specs.Prelude.{⊤, ℕ, List}
use Rattle.gl_fields.specs.declared.entry.Outcome.{Outcome}
use Rattle.gl_fields.specs.declared.entry.Outcome.TheVariants.{Stored}
use Rattle.gl_fields.specs.Fields.{IsFieldMap}

-- the fields of a stored message make a map
abbrev pub HasMap : Outcome → Type 0
HasMap (Stored streams fields) = IsFieldMap fields
HasMap other = ⊤
