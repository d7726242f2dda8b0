use Rattle.std.proofs.Common.{◌≡◌, ◌+◌, ◌*◌, ◌≤◌, ◌++◌, List, length}
use Rattle.gl_query.specs.declared.term.Node.{Node}
use Rattle.gl_query.specs.Required.{terms_of}
use Rattle.gl_query.specs.Tree.{Trees, count, polish_all}
use Rattle.gl_query.proofs.Gathering.{GatheredSoFar}
use Rattle.gl_query.proofs.required.+gather.Given as goal

abbrev pub decreases-gather_members : goal.decreases-gather_members
decreases-gather_members l = 2 * length l.nodes.now + 1

abbrev pub decreases-gather : goal.decreases-gather
decreases-gather l = 2 * length l.nodes.now

abbrev pub invariant-gather_members-loop-done : goal.invariant-gather_members-loop-done
invariant-gather_members-loop-done l =
    record {
      members : (ts : Trees) (rest : List Node) → l.count ≡ count ts → l.nodes ≡ polish_all ts ++ rest → GatheredSoFar ts rest l.left l.wanted (terms_of l.initial.out.items) (terms_of l.out.items) l._done l.count;
      shorter : length l.left ≤ length l.nodes;
    }
