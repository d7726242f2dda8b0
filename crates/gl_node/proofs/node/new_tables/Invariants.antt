use Rattle.std.proofs.Common.{◌≡◌, length}
use Rattle.gl_node.proofs.Tables.{AreFresh}
use Rattle.gl_node.proofs.node.new_tables.Given as goal

abbrev pub invariant-loop : goal.invariant-loop
invariant-loop l = (length l.tables.items ≡ l.index) × AreFresh l.tables.items
