use Rattle.std.proofs.Common.{◌≡◌, length}
use Rattle.gl_base.specs.Bytes.{is_digit}
use Rattle.gl_json.specs.JsonReading.{past}
use Rattle.gl_json.proofs.bytes.past_digits.Given as goal

abbrev pub invariant-loop-rest : goal.invariant-loop-rest
invariant-loop-rest l = past is_digit l.rest ≡ past is_digit l.bytes

abbrev pub decreases-loop-rest : goal.decreases-loop-rest
decreases-loop-rest l = length l.rest
