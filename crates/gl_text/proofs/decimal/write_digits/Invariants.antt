use Rattle.std.proofs.Common.{◌≡◌, ◌≤◌, ◌++◌, ◌^◌, drop, length}
use Rattle.std.specs.Fmt.{decimal}
use Rattle.gl_text.proofs.decimal.write_digits.Given as goal

abbrev pub invariant-loop-rest : goal.invariant-loop-rest
invariant-loop-rest l =
    record {
      text : decimal l.rest ++ drop l.at l.digits ≡ decimal l.number;
      within : l.at ≤ 20;
      less : l.rest ≤ 2 ^ 63;
      len : length l.digits ≡ 20;
    }

abbrev pub decreases-loop-rest : goal.decreases-loop-rest
decreases-loop-rest l = l.rest
