use Rattle.std.proofs.Common.{◌≡◌, drop, map, reverse}
use Rattle.std.specs.List.{list_any, enumerate_from}
use Rattle.gl_rulelang.specs.Tree.{args_view, row}
use Rattle.gl_check.specs.Functions.{asked}
use Rattle.gl_check.specs.Arguments.{in_places}
use Rattle.gl_check.specs.Checking.{is_wrongly_given}
use Rattle.gl_check.proofs.faults.are_wrongly_given.Given as goal

-- what is left decides
abbrev pub invariant-loop-place : goal.invariant-loop-place
invariant-loop-place l =
    list_any (is_wrongly_given (reverse l.known) (row (args_view l.arguments))) (enumerate_from l.place (map asked (drop l.place l.parameters))) ≡ list_any (is_wrongly_given (reverse l.known) (row (args_view l.arguments))) (in_places (map asked l.parameters))
