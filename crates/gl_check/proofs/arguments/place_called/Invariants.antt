use Rattle.std.proofs.Common.{◌≡◌, drop}
use Rattle.std.specs.List.{position_from}
use Rattle.gl_check.specs.Arguments.{is_called, names_view}
use Rattle.gl_check.proofs.arguments.place_called.Given as goal

-- what is left decides
abbrev pub invariant-loop-place : goal.invariant-loop-place
invariant-loop-place l = position_from (is_called l.wanted) l.place (names_view (drop l.place l.arguments)) ≡ position_from (is_called l.wanted) 0 (names_view l.arguments)
