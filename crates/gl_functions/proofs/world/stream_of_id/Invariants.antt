use Rattle.std.proofs.Common.{◌≡◌, length}
use Rattle.std.specs.Prelude.{find}
use Rattle.std.specs.Str.{bytes_eq}
use Rattle.gl_text.specs.Ids.{id_text}
use Rattle.gl_functions.proofs.world.stream_of_id.Given as goal

abbrev pub invariant-loop-rest : goal.invariant-loop-rest
invariant-loop-rest l = find (λ stream. bytes_eq l.id (id_text stream.id)) l.rest ≡ find (λ stream. bytes_eq l.id (id_text stream.id)) l.streams

abbrev pub decreases-loop-rest : goal.decreases-loop-rest
decreases-loop-rest l = length l.rest
