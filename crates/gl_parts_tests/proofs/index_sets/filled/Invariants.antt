use Rattle.std.proofs.Common.{◌≤◌}
use Rattle.gl_parts_tests.proofs.index_sets.filled.Given as goal

abbrev pub invariant-loop-at : goal.invariant-loop-at
invariant-loop-at l = l.all.next ≤ l.at
