use Rattle.std.proofs.Common.{◌≡◌, ◌++◌, take}
use Rattle.std.specs.List.{flat_map}
use Rattle.gl_settings.specs.Patterns.{stream_patterns}
use Rattle.gl_settings.proofs.patterns.push_streams.Given as goal

abbrev pub invariant-loop-stream : goal.invariant-loop-stream
invariant-loop-stream l = l.texts ≡ l.initial.texts ++ flat_map stream_patterns (take l.stream-index l.streams)
