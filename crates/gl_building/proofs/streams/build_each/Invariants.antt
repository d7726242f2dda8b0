use Rattle.std.proofs.Common.{take, map}
use Rattle.std.specs.List.{flat_map}
use Rattle.gl_streams.specs.Matching.{Fits}
use Rattle.gl_settings.specs.Patterns.{stream_patterns}
use Rattle.gl_building.proofs.Causes.{IsSteady}
use Rattle.gl_building.proofs.streams.build_each.Given as goal

abbrev pub invariant-loop-stream : goal.invariant-loop-stream
invariant-loop-stream g l = record {
  value : Fits (take l.stream-index l.streams) (map (λ own. own.items) l.patterns.items);
  steady : IsSteady (flat_map stream_patterns (take l.stream-index l.streams)) (g.P.PatternShop.faults l.fn.shop) (g.P.PatternShop.faults l.shop) (g.P.PatternShop.refused l.fn.shop) (g.P.PatternShop.refused l.shop);
}
