use Rattle.std.proofs.Common.{◌≡◌, ◌++◌, take}
use Rattle.gl_indexset.specs.SetKept.{named_from}
use Rattle.gl_indexset.proofs.set.IndexSet.list.Given as goal

abbrev pub invariant-loop-at : goal.invariant-loop-at
invariant-loop-at l = l.found ≡ l.fn.found ++ named_from l.self-inside.rule.name l.first (take l.at l.self-inside.closed.items)
