use Rattle.std.proofs.Common.{◌≡◌, map, drop, Ok}
use Rattle.std.specs.List.{fold}
use Rattle.gl_fields.specs.Putting.{then_put}
use Rattle.gl_syslog.specs.Decoding.{parameter_field}
use Rattle.gl_syslog.proofs.fields.put_parameters.Given as goal

abbrev pub invariant-loop-name : goal.invariant-loop-name
invariant-loop-name l = fold then_put (Ok l.fn.fields) (map (parameter_field l.id) l.params) ≡ fold then_put (Ok l.fields) (map (parameter_field l.id) (drop l.name-index l.params))
