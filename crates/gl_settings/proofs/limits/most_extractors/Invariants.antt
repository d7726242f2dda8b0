use Rattle.std.proofs.Common.{◌≡◌, length, map, take}
use Rattle.gl_settings.specs.Limits.{most}
use Rattle.gl_settings.specs.declared.input.Input.{Input}
use Rattle.gl_settings.proofs.limits.most_extractors.Given as goal

abbrev pub invariant-loop-input : goal.invariant-loop-input
invariant-loop-input l = l.most ≡ most (map (λ (input : Input). length input.extractors) (take l.input-index l.inputs))
