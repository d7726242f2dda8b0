use Rattle.std.proofs.Common.{◌≤◌, drop}
use Rattle.gl_rulelang.specs.Tree.{args_view, heights, row}
use Rattle.gl_rulelang.proofs.expression.+within.Given as goal

-- where the rest is within, all are; and the rest is no higher than all
abbrev pub invariant-are_within-loop-argument : goal.invariant-are_within-loop-argument
invariant-are_within-loop-argument l =
    let behind = heights (row (args_view (drop l.argument-index l.arguments))) in
    let all = heights (row (args_view l.arguments)) in
    (behind ≤ l.most → all ≤ l.most) × (behind ≤ all)
