use Rattle.std.proofs.Common.{◌≡◌, take}
use Rattle.gl_settings.proofs.input.same_extractors.Given as goal

abbrev pub invariant-loop-index : goal.invariant-loop-index
invariant-loop-index l = take l.index l.extractors ≡ take l.index l.others
