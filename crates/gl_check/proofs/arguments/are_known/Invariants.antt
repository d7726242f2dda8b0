use Rattle.std.proofs.Common.{◌≡◌, drop, map}
use Rattle.std.specs.List.{list_all}
use Rattle.gl_check.specs.Functions.{asked}
use Rattle.gl_check.specs.Arguments.{is_one_of, names_view}
use Rattle.gl_check.proofs.arguments.are_known.Given as goal

-- what is left decides
abbrev pub invariant-loop-name : goal.invariant-loop-name
invariant-loop-name l =
    list_all (is_one_of (map asked l.parameters)) (names_view (drop l.name-index l.arguments)) ≡ list_all (is_one_of (map asked l.parameters)) (names_view l.arguments)
