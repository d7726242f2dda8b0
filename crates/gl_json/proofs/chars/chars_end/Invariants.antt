use Rattle.std.proofs.Common.{length}
use Rattle.gl_json.proofs.CharRead.{Goes}
use Rattle.gl_json.proofs.chars.chars_end.Given as goal

abbrev pub invariant-loop-rest : goal.invariant-loop-rest
invariant-loop-rest l = Goes l.bytes l.rest

abbrev pub decreases-loop-rest : goal.decreases-loop-rest
decreases-loop-rest l = length l.rest
