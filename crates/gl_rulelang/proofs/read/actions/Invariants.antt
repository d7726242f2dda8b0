use Rattle.gl_rulelang.specs.Tokens.{left}
use Rattle.gl_rulelang.specs.Rules.{count}
use Rattle.gl_rulelang.proofs.Steps.{StepsSoFar}
use Rattle.gl_rulelang.proofs.read.actions.Given as goal

abbrev pub invariant-loop-alloc : goal.invariant-loop-alloc
invariant-loop-alloc l = StepsSoFar (left l.fn.cursor) l.actions.items (left l.cursor)

abbrev pub decreases-loop-alloc : goal.decreases-loop-alloc
decreases-loop-alloc l = count (left l.cursor)
