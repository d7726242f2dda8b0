use Rattle.std.proofs.Common.{◌≡◌, drop, map}
use Rattle.std.specs.List.{list_any, enumerate_from}
use Rattle.gl_rulelang.specs.Tree.{args_view, row}
use Rattle.gl_check.specs.Functions.{asked}
use Rattle.gl_check.specs.Arguments.{in_places}
use Rattle.gl_check.specs.Checking.{lacks_pattern}
use Rattle.gl_check.proofs.faults.lack_pattern.Given as goal

-- what is left decides
abbrev pub invariant-loop-place : goal.invariant-loop-place
invariant-loop-place l =
    list_any (lacks_pattern (row (args_view l.arguments))) (enumerate_from l.place (map asked (drop l.place l.parameters))) ≡ list_any (lacks_pattern (row (args_view l.arguments))) (in_places (map asked l.parameters))
