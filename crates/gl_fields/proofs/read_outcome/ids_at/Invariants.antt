use Rattle.std.proofs.Common.{◌≡◌, ◌-◌, ◌<◌, ℕ, []}
use Rattle.gl_fields.specs.Fields.{Rises}
use Rattle.gl_fields.specs.EntryReading.{id_at}
use Rattle.gl_fields.specs.Units.{many_at}
use Rattle.gl_fields.proofs.read_outcome.ids_at.Given as goal

abbrev pub invariant-loop : goal.invariant-loop
invariant-loop l = record {
  rises : Rises (λ (a b : ℕ). a < b) l.ids.items;
  so_far : many_at id_at (l.count - l.counter) l.ids.items l.rest ≡ many_at id_at l.count [] l.bytes;
}
