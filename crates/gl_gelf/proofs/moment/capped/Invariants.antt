use Rattle.std.proofs.Common.{◌≡◌, ◌≤◌, true, length, min}
use Rattle.std.specs.List.{list_all}
use Rattle.gl_base.specs.Bytes.{is_digit}
use Rattle.gl_base.specs.Digits.{decimal}
use Rattle.gl_gelf.proofs.moment.capped.Given as goal

abbrev pub invariant-loop-rest : goal.invariant-loop-rest
invariant-loop-rest l = (min (decimal l.n l.rest) 100000000000000000000 ≡ min (decimal 0 l.digits) 100000000000000000000) × (l.n ≤ 100000000000000000000) × (list_all is_digit l.rest ≡ true)

abbrev pub decreases-loop-rest : goal.decreases-loop-rest
decreases-loop-rest l = length l.rest
