use Rattle.std.proofs.Common.{◌≡◌, take}
use Rattle.std.specs.List.{flat_map}
use Rattle.gl_check.specs.Checking.{pattern_texts}
use Rattle.gl_building.specs.Places.{book_of}
use Rattle.gl_building.proofs.Causes.{IsSteady}
use Rattle.gl_building.proofs.rules.build_rules.Given as goal

abbrev pub invariant-loop-rule : goal.invariant-loop-rule
invariant-loop-rule g l = record {
  value : l.book.items ≡ book_of (take l.rule-index l.rules);
  steady : IsSteady (flat_map pattern_texts (take l.rule-index l.rules)) (g.P.PatternShop.faults l.fn.shop) (g.P.PatternShop.faults l.shop) (g.P.PatternShop.refused l.fn.shop) (g.P.PatternShop.refused l.shop);
}
