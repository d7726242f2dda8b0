use Rattle.std.proofs.Common.{◌≡◌, take, map}
use Rattle.std.specs.List.{flat_map}
use Rattle.gl_grok.specs.Tables.{table_of}
use Rattle.gl_settings.specs.Patterns.{input_patterns}
use Rattle.gl_building.specs.Places.{built_inputs}
use Rattle.gl_building.proofs.Causes.{IsSteady}
use Rattle.gl_building.proofs.inputs.build_each.Given as goal

abbrev pub invariant-loop-input : goal.invariant-loop-input
invariant-loop-input g l = record {
  value : map (λ own. own.items) l.built.items ≡ built_inputs (table_of l.groks) (take l.input-index l.inputs);
  steady : IsSteady (flat_map (input_patterns (table_of l.groks)) (take l.input-index l.inputs)) (g.P.PatternShop.faults l.fn.shop) (g.P.PatternShop.faults l.shop) (g.P.PatternShop.refused l.fn.shop) (g.P.PatternShop.refused l.shop);
}
