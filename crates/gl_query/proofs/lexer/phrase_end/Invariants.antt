use Rattle.std.proofs.Common.{◌≡◌, false, drop}
use Rattle.gl_query.specs.Tokens.{phrase_end}
use Rattle.gl_query.proofs.lexer.phrase_end.Given as goal

abbrev pub invariant-loop-n : goal.invariant-loop-n
invariant-loop-n l = phrase_end l.n l.escaped (drop l.n l.text) ≡ phrase_end 0 false l.text
