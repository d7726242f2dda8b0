use Rattle.std.proofs.Common.{◌≡◌, length}
use Rattle.gl_base.specs.Digits.{decimal}
use Rattle.gl_gelf.proofs.moment.is_zero.Given as goal

abbrev pub invariant-loop-rest : goal.invariant-loop-rest
invariant-loop-rest l = decimal 0 l.digits ≡ decimal 0 l.rest

abbrev pub decreases-loop-rest : goal.decreases-loop-rest
decreases-loop-rest l = length l.rest
