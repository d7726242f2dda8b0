use Rattle.std.proofs.Common.{◌≡◌, take}
use Rattle.gl_streams.specs.Matching.{patterns_of}
use Rattle.gl_building.specs.Building.{rule_patterns}
use Rattle.gl_building.proofs.Causes.{IsSteady}
use Rattle.gl_building.proofs.streams.build_own.Given as goal

abbrev pub invariant-loop-rule : goal.invariant-loop-rule
invariant-loop-rule g l = record {
  value : l.patterns.items ≡ patterns_of (take l.rule-index l.rules);
  steady : IsSteady (rule_patterns (take l.rule-index l.rules)) (g.P.PatternShop.faults l.fn.shop) (g.P.PatternShop.faults l.shop) (g.P.PatternShop.refused l.fn.shop) (g.P.PatternShop.refused l.shop);
}
