use Rattle.std.proofs.Common.{◌≡◌, drop}
use Rattle.std.specs.List.{list_any}
use Rattle.gl_check.specs.Arguments.{is_called, names_view}
use Rattle.gl_check.proofs.arguments.has_one.Given as goal

-- what is left decides
abbrev pub invariant-loop-name : goal.invariant-loop-name
invariant-loop-name l = list_any (is_called l.wanted) (names_view (drop l.name-index l.arguments)) ≡ list_any (is_called l.wanted) (names_view l.arguments)
