use Rattle.std.proofs.Common.{◌≡◌, ◌+◌, ◌*◌, ◌≤◌, ◌++◌, List, length}
use Rattle.gl_indexset.specs.declared.row.Row.{Row}
use Rattle.gl_query.specs.declared.term.Node.{Node}
use Rattle.gl_query.specs.Tree.{Trees, count, polish_all}
use Rattle.gl_words.specs.Words.{StandsFor}
use Rattle.gl_covers.specs.Covers.{all_joined, covers, joined, narrower_known, narrowest}
use Rattle.gl_covers.proofs.Gathering.{SoFar}
use Rattle.gl_covers.proofs.finding.+suspect.Given as goal

abbrev pub decreases-suspect : goal.decreases-suspect
decreases-suspect l = 2 * length l.nodes.now

abbrev pub decreases-fewest : goal.decreases-fewest
decreases-fewest l = 2 * length l.nodes.now + 1

abbrev pub decreases-all : goal.decreases-all
decreases-all l = 2 * length l.nodes.now + 1

abbrev pub invariant-fewest-loop-done : goal.invariant-fewest-loop-done
invariant-fewest-loop-done l = record {
  members : (rows : List Row) → StandsFor l.words rows → (ts : Trees) (rest : List Node) → l.count ≡ count ts → l.nodes ≡ polish_all ts ++ rest
      → SoFar l.wanted rows (narrower_known rows) (narrowest rows (covers rows ts)) rest l.left l.found l._done l.count;
  shorter : length l.left ≤ length l.nodes;
}

abbrev pub invariant-all-loop-done : goal.invariant-all-loop-done
invariant-all-loop-done l = record {
  members : (rows : List Row) → StandsFor l.words rows → (ts : Trees) (rest : List Node) → l.count ≡ count ts → l.nodes ≡ polish_all ts ++ rest
      → SoFar l.wanted rows joined (all_joined (covers rows ts)) rest l.left l.found l._done l.count;
  shorter : length l.left ≤ length l.nodes;
}
