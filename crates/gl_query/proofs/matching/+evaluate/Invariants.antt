use Rattle.std.proofs.Common.{◌≡◌, ◌+◌, ◌*◌, ◌≤◌, ◌++◌, List, length}
use Rattle.gl_query.specs.declared.term.Node.{Node}
use Rattle.gl_query.specs.Tree.{Trees, count, polish_all}
use Rattle.gl_query.proofs.Evaluating.{AllSoFar, OneSoFar}
use Rattle.gl_query.proofs.matching.+evaluate.Given as goal

abbrev pub decreases-all_hold : goal.decreases-all_hold
decreases-all_hold l = 2 * length l.nodes.now + 1

abbrev pub decreases-evaluate : goal.decreases-evaluate
decreases-evaluate l = 2 * length l.nodes.now

abbrev pub decreases-one_holds : goal.decreases-one_holds
decreases-one_holds l = 2 * length l.nodes.now + 1

abbrev pub invariant-all_hold-loop-done : goal.invariant-all_hold-loop-done
invariant-all_hold-loop-done l =
    record {
      members : (ts : Trees) (rest : List Node) → l.count ≡ count ts → l.nodes ≡ polish_all ts ++ rest → AllSoFar l.fields ts rest l.left l.all l._done l.count;
      shorter : length l.left ≤ length l.nodes;
    }

abbrev pub invariant-one_holds-loop-done : goal.invariant-one_holds-loop-done
invariant-one_holds-loop-done l =
    record {
      members : (ts : Trees) (rest : List Node) → l.count ≡ count ts → l.nodes ≡ polish_all ts ++ rest → OneSoFar l.fields ts rest l.left l.one_of l._done l.count;
      shorter : length l.left ≤ length l.nodes;
    }
