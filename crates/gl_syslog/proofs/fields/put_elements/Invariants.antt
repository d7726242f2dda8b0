use Rattle.std.proofs.Common.{◌≡◌, drop, Ok}
use Rattle.std.specs.List.{fold, flat_map}
use Rattle.gl_fields.specs.Putting.{then_put}
use Rattle.gl_syslog.specs.Decoding.{element_fields}
use Rattle.gl_syslog.proofs.fields.put_elements.Given as goal

abbrev pub invariant-loop-element : goal.invariant-loop-element
invariant-loop-element l = fold then_put (Ok l.fn.fields) (flat_map element_fields l.elements) ≡ fold then_put (Ok l.fields) (flat_map element_fields (drop l.element-index l.elements))
