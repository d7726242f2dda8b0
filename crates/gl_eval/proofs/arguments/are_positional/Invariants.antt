use Rattle.std.proofs.Common.{◌≡◌, drop}
use Rattle.gl_check.specs.Arguments.{are_positional, names_view}
use Rattle.gl_eval.proofs.arguments.are_positional.Given as goal

-- what is left decides
abbrev pub invariant-loop-name : goal.invariant-loop-name
invariant-loop-name l = are_positional (names_view (drop l.name-index l.arguments)) ≡ are_positional (names_view l.arguments)
