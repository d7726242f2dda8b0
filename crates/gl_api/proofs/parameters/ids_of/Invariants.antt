-- The ids so far and those of the texts that are left are all.
use Rattle.std.proofs.Common.{◌≡◌, ◌++◌, map, drop}
use Rattle.std.specs.Prelude.{option_map}
use Rattle.gl_api.specs.Parameters.{all_ids}
use Rattle.gl_api.proofs.parameters.ids_of.Given as goal

abbrev pub invariant-loop-text : goal.invariant-loop-text
invariant-loop-text l =
    all_ids (map (λ x. x.now) l.texts) ≡ option_map (λ more. l.ids ++ more) (all_ids (map (λ x. x.now) (drop l.text-index l.texts)))
