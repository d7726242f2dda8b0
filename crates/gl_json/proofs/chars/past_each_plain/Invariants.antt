use Rattle.std.proofs.Common.{◌≡◌, length}
use Rattle.gl_json.specs.Chars.{is_plain}
use Rattle.gl_json.specs.JsonReading.{past}
use Rattle.gl_json.proofs.chars.past_each_plain.Given as goal

abbrev pub invariant-loop-rest : goal.invariant-loop-rest
invariant-loop-rest l = past is_plain l.rest ≡ past is_plain l.bytes

abbrev pub decreases-loop-rest : goal.decreases-loop-rest
decreases-loop-rest l = length l.rest
