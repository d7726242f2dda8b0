use Rattle.std.proofs.Common.{◌≡◌, ◌+◌, ◌*◌, ◌++◌, drop, length}
use Rattle.gl_rulelang.specs.Tree.{tree_of, call_of, args_view, row, height, heights}
use Rattle.gl_check.specs.Checking.{patterns_in}
use Rattle.gl_eval.specs.Meaning.{meanings}
use Rattle.gl_eval.specs.Patterns.{StandAt, HavePatterns}
use Rattle.gl_eval.specs.Scopes.{scope_in}
use Rattle.gl_eval.proofs.walking.+walk.Given as goal

-- what is left gives the rest of the values, and its patterns are the next ones
abbrev pub invariant-push_values-loop-argument : goal.invariant-push_values-loop-argument
invariant-push_values-loop-argument l =
    record {
      values : l.stack.items ++ meanings (scope_in l.scope) (row (args_view (drop l.argument-index l.arguments))) ≡ l.fn.stack.items ++ meanings (scope_in l.scope) (row (args_view l.arguments));
      lawful : HavePatterns (row (args_view (drop l.argument-index l.arguments)));
      patterns : StandAt l.laid.next (patterns_in (row (args_view (drop l.argument-index l.arguments)))) l.laid.patterns.items;
      next : l.laid.next + length (patterns_in (row (args_view (drop l.argument-index l.arguments)))) ≡ l.fn.laid.next + length (patterns_in (row (args_view l.arguments)));
      same : l.laid.patterns.items ≡ l.fn.laid.patterns.items;
    }

-- how deep it nests, a call above its arguments
abbrev pub decreases-value_of : goal.decreases-value_of
decreases-value_of l = 3 * height (tree_of l.e.now)

abbrev pub decreases-value_of_call : goal.decreases-value_of_call
decreases-value_of_call l = 3 * heights (call_of l.call.now).1 + 2

abbrev pub decreases-push_values : goal.decreases-push_values
decreases-push_values l = 3 * heights (row (args_view l.arguments.now)) + 1
