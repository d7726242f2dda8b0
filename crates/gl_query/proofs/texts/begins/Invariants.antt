use Rattle.std.proofs.Common.{◌≡◌, length}
use Rattle.gl_query.specs.Texts.{text_tokens, begins}
use Rattle.gl_query.proofs.texts.begins.Given as goal

abbrev pub invariant-loop-token : goal.invariant-loop-token
invariant-loop-token l = begins (text_tokens l.word) (text_tokens l.text) ≡ begins (text_tokens l.fn.word) (text_tokens l.fn.text)

abbrev pub decreases-loop-token : goal.decreases-loop-token
decreases-loop-token l = length l.word
