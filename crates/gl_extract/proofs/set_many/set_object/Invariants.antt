use Rattle.std.proofs.Common.{◌≡◌, map}
use Rattle.gl_extract.specs.Extraction.{set_all}
use Rattle.gl_extract.specs.Views.{field_of_pair}
use Rattle.gl_extract.proofs.set_many.set_object.Given as goal

abbrev pub invariant-loop-name : goal.invariant-loop-name
invariant-loop-name l = l.fields ≡ set_all (map field_of_pair l.yielded) l.fn.fields
