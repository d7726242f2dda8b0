use Rattle.std.proofs.Common.{◌≡◌, ◌&&◌, length}
use Rattle.std.specs.List.{list_all}
use Rattle.gl_fields.specs.Fields.{is_name_byte}
use Rattle.gl_fields.proofs.place.has_name_bytes.Given as goal

abbrev pub invariant-loop-rest : goal.invariant-loop-rest
invariant-loop-rest l = (l.all && list_all is_name_byte l.rest) ≡ list_all is_name_byte l.name

abbrev pub decreases-loop-rest : goal.decreases-loop-rest
decreases-loop-rest l = length l.rest
