use Rattle.std.proofs.Common.{◌≡◌, ◌+◌, ◌*◌, drop, length}
use Rattle.gl_rulelang.specs.Tree.{tree_of, call_of, args_view, row, height, heights}
use Rattle.gl_check.specs.Checking.{patterns_in}
use Rattle.gl_eval.specs.Patterns.{HavePatterns}
use Rattle.gl_eval.proofs.passing.+past.Given as goal

abbrev pub invariant-past_arguments-loop-argument : goal.invariant-past_arguments-loop-argument
invariant-past_arguments-loop-argument l =
    record {
      lawful : HavePatterns (row (args_view (drop l.argument-index l.arguments)));
      left : l.behind + length (patterns_in (row (args_view (drop l.argument-index l.arguments)))) ≡ l.at + length (patterns_in (row (args_view l.arguments)));
    }

-- how deep it nests, a call above its arguments
abbrev pub decreases-past : goal.decreases-past
decreases-past l = 3 * height (tree_of l.e.now)

abbrev pub decreases-past_call : goal.decreases-past_call
decreases-past_call l = 3 * heights (call_of l.call.now).1 + 2

abbrev pub decreases-past_arguments : goal.decreases-past_arguments
decreases-past_arguments l = 3 * heights (row (args_view l.arguments.now)) + 1
