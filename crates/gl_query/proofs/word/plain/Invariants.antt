use Rattle.std.proofs.Common.{◌≡◌, ◌++◌, false, drop}
use Rattle.gl_query.specs.Words.{plain}
use Rattle.gl_query.proofs.word.plain.Given as goal

abbrev pub invariant-loop-b : goal.invariant-loop-b
invariant-loop-b l = l.text.items ++ plain l.escaped (drop l.b-index l.word) ≡ plain false l.word
