-- What was found among the rows before.
use Rattle.std.proofs.Common.{◌≡◌, ◌+◌, take}
use Rattle.gl_indexset.specs.Counting.{IsSameCounter, live_in, steps_in}
use Rattle.gl_query.specs.Tree.{Tree, polish}
use Rattle.gl_postings.specs.Found.{hits_of}
use Rattle.gl_postings.proofs.finding.find_all.Given as goal

abbrev pub invariant-loop-n : goal.invariant-loop-n
invariant-loop-n g l = record {
  live : live_in l.rows ≡ live_in l.initial.rows;
  counter : IsSameCounter l.rows l.initial.rows;
  steps : steps_in l.rows ≡ steps_in l.initial.rows + l.n;
  found : (t : Tree) → l.ask.query ≡ polish t → l.hits ≡ hits_of l.ask t (take l.n (live_in l.initial.rows));
}
