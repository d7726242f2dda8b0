use Rattle.std.proofs.Common.{◌≡◌, ◌<◌, ◌++◌, [], length, get_or, take, drop}
use Rattle.gl_indexset.proofs.Ranking.{change_each, less}
use Rattle.gl_indexset.proofs.ranks.lower_each.Given as goal

abbrev pub invariant-loop-level : goal.invariant-loop-level
invariant-loop-level l = record {
  levels : l.levels.items ≡ take l.level (change_each less l.at l.fn.levels.items) ++ drop l.level l.fn.levels.items;
  rest : drop l.level (change_each less l.at l.fn.levels.items) ≡ change_each less l.place (drop l.level l.fn.levels.items);
  fine : l.level < length l.fn.levels.items → 0 < get_or (get_or l.fn.levels.items l.level []) l.place 0;
}
