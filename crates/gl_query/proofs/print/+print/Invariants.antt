use Rattle.std.proofs.Common.{◌≡◌, ◌+◌, ◌*◌, ◌≤◌, ◌++◌, List, length}
use Rattle.gl_query.specs.declared.term.Node.{Node}
use Rattle.gl_query.specs.Tree.{Trees, count, polish_all}
use Rattle.gl_query.proofs.Writing.{MembersSoFar}
use Rattle.gl_query.proofs.print.+print.Given as goal

abbrev pub decreases-push_members : goal.decreases-push_members
decreases-push_members l = 2 * length l.nodes.now + 1

abbrev pub decreases-push_node : goal.decreases-push_node
decreases-push_node l = 2 * length l.nodes.now

abbrev pub invariant-push_members-loop-done : goal.invariant-push_members-loop-done
invariant-push_members-loop-done l =
    record {
      members : (ts : Trees) (rest : List Node) → l.count ≡ count ts → l.nodes ≡ polish_all ts ++ rest → MembersSoFar ts rest l.left l.sign l.initial.out.items l.out.items l.done l.count;
      shorter : length l.left ≤ length l.nodes;
    }
