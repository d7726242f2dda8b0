use Rattle.std.proofs.Common.{◌≡◌, ◌++◌, drop, map, filter_map}
use Rattle.std.specs.List.{enumerate_from}
use Rattle.gl_rulelang.specs.Tree.{args_view, row}
use Rattle.gl_check.specs.Functions.{asked}
use Rattle.gl_check.specs.Arguments.{in_places}
use Rattle.gl_check.specs.Checking.{pattern_given}
use Rattle.gl_check.proofs.patterns.push_given.Given as goal

-- what was pushed, and what is left
abbrev pub invariant-loop-place : goal.invariant-loop-place
invariant-loop-place l =
    l.out ++ filter_map (pattern_given (row (args_view l.arguments))) (enumerate_from l.place (map asked (drop l.place l.parameters))) ≡ l.initial.out ++ filter_map (pattern_given (row (args_view l.arguments))) (in_places (map asked l.parameters))
