use Rattle.std.proofs.Common.{◌≡◌, take}
use Rattle.gl_settings.proofs.input.copy_extractors.Given as goal

abbrev pub invariant-loop-extractor : goal.invariant-loop-extractor
invariant-loop-extractor l = l.copies ≡ take l.extractor-index l.extractors
