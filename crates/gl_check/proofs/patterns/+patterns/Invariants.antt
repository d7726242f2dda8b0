use Rattle.std.proofs.Common.{◌≡◌, ◌++◌, drop}
use Rattle.gl_rulelang.specs.Tree.{args_view, row}
use Rattle.gl_check.specs.Checking.{patterns_in}
use Rattle.gl_check.proofs.patterns.+patterns.Given as goal

-- what was pushed, and what is left
abbrev pub invariant-push_inside-loop-argument : goal.invariant-push_inside-loop-argument
invariant-push_inside-loop-argument l =
    l.out ++ patterns_in (row (args_view (drop l.argument-index l.arguments))) ≡ l.initial.out ++ patterns_in (row (args_view l.arguments))
