use Rattle.gl_rulelang.specs.Tokens.{left}
use Rattle.gl_rulelang.specs.Rules.{count}
use Rattle.gl_rulelang.proofs.StageSteps.{NamesSoFar}
use Rattle.gl_rulelang.proofs.stages.rule_names.Given as goal

abbrev pub invariant-loop-alloc : goal.invariant-loop-alloc
invariant-loop-alloc l = NamesSoFar (left l.fn.cursor) l.names.items (left l.cursor)

abbrev pub decreases-loop-alloc : goal.decreases-loop-alloc
decreases-loop-alloc l = count (left l.cursor)
