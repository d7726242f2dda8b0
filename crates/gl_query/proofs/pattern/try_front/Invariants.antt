use Rattle.std.proofs.Common.{length}
use Rattle.gl_query.specs.Attempts.{Reaches}
use Rattle.gl_query.proofs.pattern.try_front.Given as goal

abbrev pub invariant-loop-piece : goal.invariant-loop-piece
invariant-loop-piece l = Reaches l.pattern l.fn.text l.left l.text

abbrev pub decreases-loop-piece : goal.decreases-loop-piece
decreases-loop-piece l = length l.left
