use Rattle.std.proofs.Common.{◌≡◌, length}
use Rattle.gl_query.specs.Texts.{text_tokens, begins, some_end}
use Rattle.gl_query.proofs.texts.stands_somewhere.Given as goal

abbrev pub invariant-loop-text : goal.invariant-loop-text
invariant-loop-text l = some_end (begins (text_tokens l.word)) (text_tokens l.text) ≡ some_end (begins (text_tokens l.word)) (text_tokens l.fn.text)

abbrev pub decreases-loop-text : goal.decreases-loop-text
decreases-loop-text l = length l.text
