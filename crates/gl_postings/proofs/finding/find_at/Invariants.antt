-- What was found at the positions before.
use Rattle.std.proofs.Common.{◌≡◌, ◌+◌, List, take}
use Rattle.std.specs.List.{All, Contains}
use Rattle.gl_indexset.specs.declared.row.Row.{Row}
use Rattle.gl_indexset.specs.Counting.{IsSameCounter, live_in, steps_in}
use Rattle.gl_query.specs.Tree.{Tree, polish}
use Rattle.gl_words.specs.Candidates.{positions}
use Rattle.gl_postings.specs.Found.{hits_of}
use Rattle.gl_postings.proofs.finding.find_at.Given as goal

abbrev pub invariant-loop-position : goal.invariant-loop-position
invariant-loop-position g l = record {
  live : live_in l.rows ≡ live_in l.initial.rows;
  counter : IsSameCounter l.rows l.initial.rows;
  steps : steps_in l.rows ≡ steps_in l.initial.rows + l.position-index;
  found : (t : Tree) (some : List Row) → l.ask.query ≡ polish t → All (Contains (live_in l.initial.rows)) some → l.given ≡ positions some → l.hits ≡ hits_of l.ask t (take l.position-index some);
}
