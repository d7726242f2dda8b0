use Rattle.std.proofs.Common.{◌≡◌, ◌++◌, take}
use Rattle.std.specs.List.{flat_map}
use Rattle.gl_grok.specs.Tables.{table_of}
use Rattle.gl_settings.specs.Patterns.{extractor_patterns}
use Rattle.gl_settings.proofs.patterns.push_extractors.Given as goal

abbrev pub invariant-loop-extractor : goal.invariant-loop-extractor
invariant-loop-extractor l = l.texts ≡ l.initial.texts ++ flat_map (extractor_patterns (table_of l.groks)) (take l.extractor-index l.extractors)
