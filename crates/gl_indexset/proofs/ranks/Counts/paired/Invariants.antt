use Rattle.std.proofs.Common.{◌≡◌, take}
use Rattle.gl_indexset.specs.Ranks.{paired}
use Rattle.gl_indexset.proofs.ranks.Counts.paired.Given as goal

abbrev pub invariant-loop-at : goal.invariant-loop-at
invariant-loop-at l = l.numbers.items ≡ take l.at (paired l.self)
