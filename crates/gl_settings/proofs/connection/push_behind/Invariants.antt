use Rattle.std.proofs.Common.{◌≡◌, ◌++◌, take}
use Rattle.std.specs.List.{filter}
use Rattle.std.specs.Prelude.{nat_lt}
use Rattle.gl_settings.proofs.connection.push_behind.Given as goal

abbrev pub invariant-loop-connection : goal.invariant-loop-connection
invariant-loop-connection l = l.all ≡ l.initial.all ++ filter (λ other. nat_lt l.stream other.0) (take l.connection-index l.connections)
