use Rattle.std.proofs.Common.{◌≡◌, length}
use Rattle.gl_json.specs.Chars.{is_plain}
use Rattle.gl_json.specs.JsonReading.{past}
use Rattle.gl_json.proofs.chars.past_plain.Given as goal

abbrev pub invariant-loop-behind : goal.invariant-loop-behind
invariant-loop-behind l = past is_plain l.rest ≡ past is_plain l.bytes

abbrev pub decreases-loop-behind : goal.decreases-loop-behind
decreases-loop-behind l = length l.rest
