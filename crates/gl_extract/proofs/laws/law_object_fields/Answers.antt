use Rattle.gl_extract.proofs.Flat.{Reads, object_law, none_law}
use Rattle.gl_extract.proofs.laws.law_object_fields.Goals as goal

pub returns : goal.returns
returns c =
    let laws : Reads = record { read = c.law_objects_are_read.ensures.read; is = c.law_objects_are_read.ensures.is; inside = c.law_nested_objects_are_read.ensures; says = c.law_strings_say.ensures.read } in
    record { object = object_law laws; none = none_law laws }
