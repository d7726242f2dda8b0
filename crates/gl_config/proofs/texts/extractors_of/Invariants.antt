use Rattle.std.proofs.Common.{◌≡◌, None, map, take}
use Rattle.gl_grok.specs.Tables.{table_of}
use Rattle.gl_config.specs.Applying.{first_of, extractor_cause}
use Rattle.gl_config.proofs.texts.extractors_of.Given as goal

abbrev pub invariant-loop-parts : goal.invariant-loop-parts
invariant-loop-parts l = (first_of (map (extractor_cause (table_of l.groks)) (take l.parts-index l.extractors)) ≡ None) × (l.made ≡ take l.parts-index l.extractors)
