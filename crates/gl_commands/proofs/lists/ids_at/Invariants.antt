use Rattle.std.proofs.Common.{◌≡◌, ◌++◌, drop}
use Rattle.std.specs.Prelude.{option_map}
use Rattle.serde_json.specs.View.{items_view}
use Rattle.gl_commands.specs.CommandReading.{each_of, id_in}
use Rattle.gl_commands.proofs.lists.ids_at.Given as goal

abbrev pub invariant-loop-value : goal.invariant-loop-value
invariant-loop-value l =
    each_of id_in (items_view l.values) ≡ option_map (λ more. l.ids ++ more) (each_of id_in (items_view (drop l.value-index l.values)))
