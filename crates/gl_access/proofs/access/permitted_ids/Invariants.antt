use Rattle.std.proofs.Common.{◌≡◌, map, take}
use Rattle.std.specs.List.{filter}
use Rattle.gl_streams.specs.declared.stream.Stream.{Stream}
use Rattle.gl_access.specs.Permission.{may_see}
use Rattle.gl_access.proofs.access.permitted_ids.Given as goal

abbrev pub invariant-loop-stream : goal.invariant-loop-stream
invariant-loop-stream l = l.ids ≡ filter (may_see l.config l.user) (map (λ (stream : Stream). stream.id) (take l.stream-index l.config.streams))
