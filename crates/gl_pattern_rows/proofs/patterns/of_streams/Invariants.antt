use Rattle.std.proofs.Common.{◌≡◌, map, take}
use Rattle.gl_streams.specs.Matching.{patterns_of}
use Rattle.gl_pattern_rows.proofs.patterns.of_streams.Given as goal

abbrev pub invariant-loop-stream : goal.invariant-loop-stream
invariant-loop-stream l = map (λ own. own.items) l.all.items ≡ map (λ stream. patterns_of stream.rules) (take l.stream-index l.streams)
