use Rattle.std.proofs.Common.{◌≡◌, ◌<◌, ◌++◌, [], length, get_or, take, drop}
use Rattle.gl_indexset.proofs.Ranking.{change_each, more}
use Rattle.gl_indexset.proofs.ranks.raise_each.Given as goal

abbrev pub invariant-loop-level : goal.invariant-loop-level
invariant-loop-level l = record {
  levels : l.levels.items ≡ take l.level (change_each more l.at l.fn.levels.items) ++ drop l.level l.fn.levels.items;
  rest : drop l.level (change_each more l.at l.fn.levels.items) ≡ change_each more l.place (drop l.level l.fn.levels.items);
  fine : l.level < length l.fn.levels.items → l.place < length (get_or l.fn.levels.items l.level []);
}
