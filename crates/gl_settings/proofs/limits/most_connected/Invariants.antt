use Rattle.std.proofs.Common.{◌≡◌, ℕ, List, length, map, take}
use Rattle.gl_settings.specs.Limits.{most}
use Rattle.gl_settings.proofs.limits.most_connected.Given as goal

abbrev pub invariant-loop-connection : goal.invariant-loop-connection
invariant-loop-connection l = l.most ≡ most (map (λ (connection : ℕ × List (List ℕ)). length connection.1) (take l.connection-index l.connections))
