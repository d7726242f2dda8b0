-- The fields of a payload put into a map step by step, as the code does. Between private functions alone.
use Rattle.std.specs.Prelude.{ℕ, ◌/◌, ◌%◌, ℤ, pos, List, [], Result, Ok, Err, codes}
use Rattle.std.specs.List.{fold, flat_map}
use Rattle.gl_fields.specs.declared.field.Field.{Field}
use Rattle.gl_fields.specs.declared.entry.Cause.{Cause}
use Rattle.gl_syslog.specs.declared.content.Content.{Content}
use Rattle.gl_fields.specs.Putting.{text_field, whole_field, then_put}
use Rattle.gl_text.specs.SyslogNames.{facility_name}
use Rattle.gl_syslog.specs.Decoding.{field_if, element_fields}

-- what is put next goes into the map before it
infixl 10 ◌>>=◌
abbrev pub ◌>>=◌ : Result (List Field) Cause → (List Field → Result (List Field) Cause) → Result (List Field) Cause
(Ok fields) >>= f = f fields
(Err cause) >>= f = Err cause

-- a field put into a map
unfoldable pub put_in : List Field → Field → Result (List Field) Cause
put_in fields field = then_put (Ok fields) field

-- the fields that each message has, put in step by step
unfoldable pub put_common : List Field → List ℕ → List ℕ → ℤ → ℕ → Result (List Field) Cause
put_common fields message source timestamp pri = do
  first ← put_in fields (text_field (codes "message") message)
  second ← put_in first (text_field (codes "source") source)
  third ← put_in second (whole_field (codes "timestamp") timestamp)
  fourth ← put_in third (whole_field (codes "level") (pos (pri % 8)))
  put_in fourth (text_field (codes "facility") (facility_name (pri / 8)))

-- the map of what a payload says, put in step by step
unfoldable pub put_in_order : Content → Result (List Field) Cause
put_in_order c = do
  common ← put_common [] c.message c.source c.timestamp c.pri
  application ← fold then_put (Ok common) (field_if (codes "application_name") c.application_name)
  process ← fold then_put (Ok application) (field_if (codes "process_id") c.process_id)
  id ← fold then_put (Ok process) (field_if (codes "message_id") c.message_id)
  fold then_put (Ok id) (flat_map element_fields c.elements)
