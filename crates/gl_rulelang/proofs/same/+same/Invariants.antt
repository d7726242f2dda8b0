use Rattle.std.proofs.Common.{◌≡◌, drop}
use Rattle.gl_rulelang.specs.Tree.{args_view, row}
use Rattle.gl_rulelang.proofs.same.+same.Given as goal

-- both are equal just where what is left of both is
abbrev pub invariant-same_arguments-loop-name : goal.invariant-same_arguments-loop-name
invariant-same_arguments-loop-name l =
    (row (args_view (drop l.name-index l.one)) ≡ row (args_view l.left) → row (args_view l.one) ≡ row (args_view l.other))
    × (row (args_view l.one) ≡ row (args_view l.other) → row (args_view (drop l.name-index l.one)) ≡ row (args_view l.left))
