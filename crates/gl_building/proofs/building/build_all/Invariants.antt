use Rattle.std.proofs.Common.{◌≡◌, take}
use Rattle.std.specs.List.{flat_map}
use Rattle.gl_building.proofs.Causes.{alone}
use Rattle.gl_building.proofs.Causes.{IsSteady}
use Rattle.gl_building.proofs.building.build_all.Given as goal

abbrev pub invariant-loop-text : goal.invariant-loop-text
invariant-loop-text g l = record {
  value : l.patterns.items ≡ take l.text-index l.texts;
  steady : IsSteady (flat_map alone (take l.text-index l.texts)) (g.P.PatternShop.faults l.fn.shop) (g.P.PatternShop.faults l.shop) (g.P.PatternShop.refused l.fn.shop) (g.P.PatternShop.refused l.shop);
}
