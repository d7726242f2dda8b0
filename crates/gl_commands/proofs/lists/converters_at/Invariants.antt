use Rattle.std.proofs.Common.{◌≡◌, ◌++◌, drop}
use Rattle.std.specs.Prelude.{option_map}
use Rattle.serde_json.specs.View.{items_view}
use Rattle.gl_commands.specs.CommandReading.{each_of, converter_in}
use Rattle.gl_commands.proofs.lists.converters_at.Given as goal

abbrev pub invariant-loop-value : goal.invariant-loop-value
invariant-loop-value l =
    each_of converter_in (items_view l.values) ≡ option_map (λ more. l.converters ++ more) (each_of converter_in (items_view (drop l.value-index l.values)))
