use Rattle.std.proofs.Common.{◌≡◌}
use Rattle.gl_parts_tests.proofs.index_sets.with_sets.Given as goal

abbrev pub invariant-loop-set : goal.invariant-loop-set
invariant-loop-set l = l.all.next ≡ 0
