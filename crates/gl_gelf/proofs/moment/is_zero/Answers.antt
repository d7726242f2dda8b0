use Rattle.std.proofs.Common.{◌≡◌, ◌==◌, ◌<◌, false, List, ℕ, [], ◌∷◌, get_or, arith}
use Rattle.gl_base.specs.Digits.{decimal}
use Rattle.gl_gelf.proofs.Numbers.{front_shows, zero_test}
use Rattle.gl_gelf.proofs.moment.is_zero.Goals as goal

pub returns-then-digit-gt48 : goal.returns-then-digit-gt48
returns-then-digit-gt48 c = not_zero c.args.digits.now c.loop-rest.rest.now c.loop-rest.invariant c.if-digit-gt48.true
  where
    shows : (rest : List ℕ) → 48 < get_or rest 0 0 → 0 < decimal 0 rest
    shows [] h = absurd (omega arith)
    shows (d ∷ ds) h = front_shows d ds h

    not_zero : (digits rest : List ℕ) → decimal 0 digits ≡ decimal 0 rest → 48 < get_or rest 0 0 → false ≡ (decimal 0 digits == 0)
    not_zero digits rest e h = let s = shows rest h in let k : 0 < decimal 0 digits = omega arith in zero_test (decimal 0 digits) k
