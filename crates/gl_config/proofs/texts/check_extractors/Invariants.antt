use Rattle.std.proofs.Common.{◌≡◌, None, take}
use Rattle.gl_grok.specs.Tables.{table_of}
use Rattle.gl_config.specs.Applying.{kinds_cause}
use Rattle.gl_config.proofs.texts.check_extractors.Given as goal

abbrev pub invariant-loop-extractor : goal.invariant-loop-extractor
invariant-loop-extractor l = kinds_cause (table_of l.groks) (take l.extractor-index l.extractors) ≡ None
