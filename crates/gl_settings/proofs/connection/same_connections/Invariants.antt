use Rattle.std.proofs.Common.{◌≡◌, take}
use Rattle.gl_settings.proofs.connection.same_connections.Given as goal

abbrev pub invariant-loop-index : goal.invariant-loop-index
invariant-loop-index l = take l.index l.connections ≡ take l.index l.others
