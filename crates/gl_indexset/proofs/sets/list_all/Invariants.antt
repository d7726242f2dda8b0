use Rattle.std.proofs.Common.{◌≡◌, take}
use Rattle.std.specs.List.{flat_map}
use Rattle.gl_indexset.specs.SetKept.{indexes_kept}
use Rattle.gl_indexset.proofs.sets.list_all.Given as goal

abbrev pub invariant-loop-set : goal.invariant-loop-set
invariant-loop-set l = l.found ≡ flat_map indexes_kept (take l.set-index l.sets)
