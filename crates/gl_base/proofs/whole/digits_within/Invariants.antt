use Rattle.std.proofs.Common.{◌≡◌, ◌≤◌, length}
use Rattle.gl_base.specs.Digits.{digits_within}
use Rattle.gl_base.proofs.whole.digits_within.Given as goal

abbrev pub invariant-loop-rest : goal.invariant-loop-rest
invariant-loop-rest l = (digits_within l.most l.n l.rest ≡ digits_within l.most l.start l.digits) × (l.n ≤ l.most)

abbrev pub decreases-loop-rest : goal.decreases-loop-rest
decreases-loop-rest l = length l.rest
