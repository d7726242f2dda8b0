use Rattle.std.proofs.Common.{◌≡◌, ◌<◌, ◌^◌, [], ◌∷◌, ◌++◌, length}
use Rattle.std.specs.List.{sum}
use Rattle.gl_indexset.specs.Ranks.{counts_of}
use Rattle.gl_indexset.proofs.Ranking.{Bears}
use Rattle.gl_indexset.proofs.ranks.Ranks.of.Given as goal

abbrev pub invariant-loop-alloc : goal.invariant-loop-alloc
invariant-loop-alloc l = record {
  bears : Bears l.levels.items l.counts;
  first : counts_of (l.levels.items ++ l.counts ∷ []) ≡ l.fn.numbers.items;
  fits : sum l.counts < 2 ^ 64;
}

abbrev pub decreases-loop-alloc : goal.decreases-loop-alloc
decreases-loop-alloc l = length l.counts
