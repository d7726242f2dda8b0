use Rattle.gl_query.proofs.Texting.{Runs}
use Rattle.gl_query.proofs.texts.token_len.Given as goal

abbrev pub invariant-loop-n : goal.invariant-loop-n
invariant-loop-n l = Runs l.text l.n
