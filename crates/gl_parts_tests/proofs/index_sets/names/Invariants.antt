use Rattle.gl_indexset.specs.Kept.{AreKnown, rules_of}
use Rattle.gl_parts_tests.proofs.index_sets.names.Given as goal

abbrev pub invariant-loop-name : goal.invariant-loop-name
invariant-loop-name l = AreKnown (rules_of l.all) l.found
