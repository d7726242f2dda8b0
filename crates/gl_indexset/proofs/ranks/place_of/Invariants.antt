use Rattle.std.proofs.Common.{◌≡◌, ◌+◌, ◌<◌, [], length, get_or, take}
use Rattle.std.specs.List.{sum}
use Rattle.gl_indexset.proofs.ranks.place_of.Given as goal

abbrev pub invariant-loop-level : goal.invariant-loop-level
invariant-loop-level l = record {
  within : l.level < length l.levels;
  before : sum (take l.at (get_or l.levels l.level [])) + l.rest ≡ l.n;
  here : l.rest < get_or (get_or l.levels l.level []) l.at 0;
}

abbrev pub decreases-loop-level : goal.decreases-loop-level
decreases-loop-level l = l.level
