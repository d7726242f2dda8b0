use Rattle.std.proofs.Common.{◌≡◌, take}
use Rattle.std.specs.List.{flat_map}
use Rattle.gl_grok.specs.Tables.{table_of}
use Rattle.gl_settings.specs.Patterns.{extractor_patterns}
use Rattle.gl_building.specs.Places.{built_all}
use Rattle.gl_building.proofs.Causes.{IsSteady}
use Rattle.gl_building.proofs.inputs.build_extractors.Given as goal

abbrev pub invariant-loop-extractor : goal.invariant-loop-extractor
invariant-loop-extractor g l = record {
  value : l.built.items ≡ built_all (table_of l.groks) (take l.extractor-index l.extractors);
  steady : IsSteady (flat_map (extractor_patterns (table_of l.groks)) (take l.extractor-index l.extractors)) (g.P.PatternShop.faults l.fn.shop) (g.P.PatternShop.faults l.shop) (g.P.PatternShop.refused l.fn.shop) (g.P.PatternShop.refused l.shop);
}
