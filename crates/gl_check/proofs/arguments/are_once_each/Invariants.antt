use Rattle.std.proofs.Common.{◌≡◌, length}
use Rattle.gl_check.specs.Arguments.{are_once_each, names_view}
use Rattle.gl_check.proofs.arguments.are_once_each.Given as goal

-- what is left decides
abbrev pub invariant-loop-left : goal.invariant-loop-left
invariant-loop-left l = are_once_each (names_view l.left) ≡ are_once_each (names_view l.arguments)

abbrev pub decreases-loop-left : goal.decreases-loop-left
decreases-loop-left l = length l.left
