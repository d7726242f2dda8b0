use Rattle.std.proofs.Common.{◌≡◌, map, length}
use Rattle.gl_rulelang.specs.Tree.{tree_of}
use Rattle.gl_rulelang.specs.Nesting.{open_view, reduced}
use Rattle.gl_rulelang.proofs.nest.Nest.complete.Given as goal

-- what is still to be completed gives what all gives
abbrev pub invariant-loop-alloc : goal.invariant-loop-alloc
invariant-loop-alloc l = reduced l.least (map open_view l.self.stack) (tree_of l.operand)
    ≡ reduced l.least (map open_view l.initial.self.stack) (tree_of l.initial.operand)

abbrev pub decreases-loop-alloc : goal.decreases-loop-alloc
decreases-loop-alloc l = length l.self.stack
