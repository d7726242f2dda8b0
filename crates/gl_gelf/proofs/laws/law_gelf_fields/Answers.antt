use Rattle.gl_gelf.proofs.Objects.{object_fields, other_refused}
use Rattle.gl_gelf.proofs.laws.law_gelf_fields.Goals as goal

pub returns : goal.returns
returns c = record { object = object_fields c.law_objects_are_read.ensures.read; other = other_refused c.law_objects_are_read.ensures.is }
