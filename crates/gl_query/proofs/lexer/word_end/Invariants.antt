use Rattle.std.proofs.Common.{◌≡◌, false, drop}
use Rattle.gl_query.specs.Tokens.{word_end}
use Rattle.gl_query.proofs.lexer.word_end.Given as goal

abbrev pub invariant-loop-n : goal.invariant-loop-n
invariant-loop-n l = word_end l.n l.escaped (drop l.n l.text) ≡ word_end 0 false l.text
