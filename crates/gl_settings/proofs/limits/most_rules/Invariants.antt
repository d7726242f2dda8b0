use Rattle.std.proofs.Common.{◌≡◌, length, map, take}
use Rattle.gl_settings.specs.Limits.{most}
use Rattle.gl_streams.specs.declared.stream.Stream.{Stream}
use Rattle.gl_settings.proofs.limits.most_rules.Given as goal

abbrev pub invariant-loop-stream : goal.invariant-loop-stream
invariant-loop-stream l = l.most ≡ most (map (λ (stream : Stream). length stream.rules) (take l.stream-index l.streams))
