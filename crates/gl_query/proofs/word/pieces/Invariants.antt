use Rattle.std.proofs.Common.{◌≡◌, ◌++◌, false, drop}
use Rattle.gl_query.specs.Words.{pieces}
use Rattle.gl_query.proofs.word.pieces.Given as goal

abbrev pub invariant-loop-b : goal.invariant-loop-b
invariant-loop-b l = l.pattern.items ++ pieces l.escaped (drop l.b-index l.word) ≡ pieces false l.word
