use Rattle.std.proofs.Common.{◌≡◌, map, take}
use Rattle.gl_check.specs.Arguments.{names_view}
use Rattle.gl_check.specs.Functions.{asked}
use Rattle.gl_eval.specs.Meaning.{values_for}
use Rattle.gl_eval.proofs.arguments.values_for.Given as goal

abbrev pub invariant-loop-place : goal.invariant-loop-place
invariant-loop-place l = l.values.items ≡ values_for (map asked (take l.place l.parameters)) (names_view l.arguments) l.given
