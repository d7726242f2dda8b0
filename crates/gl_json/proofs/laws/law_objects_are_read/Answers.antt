use Rattle.gl_json.proofs.Whole.{object_found, object_only}
use Rattle.gl_json.proofs.laws.law_objects_are_read.Goals as goal

pub returns : goal.returns
returns c = record { read = object_only; is = object_found }
