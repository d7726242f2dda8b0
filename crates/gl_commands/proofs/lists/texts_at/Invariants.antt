use Rattle.std.proofs.Common.{◌≡◌, ◌++◌, drop}
use Rattle.std.specs.Prelude.{option_map}
use Rattle.serde_json.specs.View.{items_view}
use Rattle.serde_json.specs.Find.{as_str}
use Rattle.gl_commands.specs.CommandReading.{each_of}
use Rattle.gl_commands.proofs.lists.texts_at.Given as goal

abbrev pub invariant-loop-value : goal.invariant-loop-value
invariant-loop-value l =
    each_of as_str (items_view l.values) ≡ option_map (λ more. l.texts ++ more) (each_of as_str (items_view (drop l.value-index l.values)))
