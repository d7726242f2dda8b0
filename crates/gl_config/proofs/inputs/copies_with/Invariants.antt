use Rattle.std.proofs.Common.{◌≡◌, map, take}
use Rattle.gl_config.specs.Next.{with_extractors}
use Rattle.gl_config.proofs.inputs.copies_with.Given as goal

abbrev pub invariant-loop-input : goal.invariant-loop-input
invariant-loop-input l = l.copies ≡ map (with_extractors l.name l.extractors) (take l.input-index l.inputs)
