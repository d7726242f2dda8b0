use Rattle.std.proofs.Common.{◌≡◌, map, take}
use Rattle.gl_config.specs.Next.{stream_set}
use Rattle.gl_config.proofs.streams.copies_with.Given as goal

abbrev pub invariant-loop-stream : goal.invariant-loop-stream
invariant-loop-stream l = l.copies ≡ map (stream_set l.id l.ways.any l.ways.remove_from_default l.ways.paused l.rules) (take l.stream-index l.streams)
