use Rattle.std.proofs.Common.{◌≡◌, drop, map}
use Rattle.std.specs.List.{list_all, enumerate_from}
use Rattle.gl_check.specs.Functions.{asked}
use Rattle.gl_check.specs.Arguments.{is_served, in_places, names_view}
use Rattle.gl_check.proofs.arguments.are_served.Given as goal

-- what is left decides
abbrev pub invariant-loop-place : goal.invariant-loop-place
invariant-loop-place l =
    list_all (is_served (names_view l.arguments)) (enumerate_from l.place (map asked (drop l.place l.parameters))) ≡ list_all (is_served (names_view l.arguments)) (in_places (map asked l.parameters))
