use Rattle.std.proofs.Common.{◌≡◌, length}
use Rattle.gl_json.specs.Grammar.{is_blank}
use Rattle.gl_json.specs.JsonReading.{past}
use Rattle.gl_json.proofs.bytes.trimmed.Given as goal

abbrev pub invariant-loop-rest : goal.invariant-loop-rest
invariant-loop-rest l = past is_blank l.rest ≡ past is_blank l.bytes

abbrev pub decreases-loop-rest : goal.decreases-loop-rest
decreases-loop-rest l = length l.rest
