use Rattle.std.proofs.Common.{◌≡◌, length}
use Rattle.std.specs.List.{list_any}
use Rattle.std.specs.Str.{bytes_eq}
use Rattle.gl_text.specs.Ids.{id_text}
use Rattle.gl_functions.proofs.asking.is_id_in.Given as goal

abbrev pub invariant-loop-rest : goal.invariant-loop-rest
invariant-loop-rest l = list_any (λ id. bytes_eq l.text (id_text id)) l.rest ≡ list_any (λ id. bytes_eq l.text (id_text id)) l.ids

abbrev pub decreases-loop-rest : goal.decreases-loop-rest
decreases-loop-rest l = length l.rest
