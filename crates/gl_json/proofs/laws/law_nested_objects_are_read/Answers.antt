use Rattle.gl_json.proofs.ValueRead.{nested_reads}
use Rattle.gl_json.proofs.laws.law_nested_objects_are_read.Goals as goal

pub returns : goal.returns
returns c = nested_reads
