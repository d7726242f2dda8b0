use Rattle.std.proofs.Common.{◌≡◌, take}
use Rattle.std.specs.List.{filter}
use Rattle.std.specs.Prelude.{nat_lt}
use Rattle.gl_settings.proofs.connection.connected.Given as goal

abbrev pub invariant-loop-connection : goal.invariant-loop-connection
invariant-loop-connection l = l.all ≡ filter (λ other. nat_lt other.0 l.stream) (take l.connection-index l.connections)
