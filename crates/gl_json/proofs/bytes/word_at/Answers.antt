use Rattle.gl_json.proofs.Taking.{word_none}
use Rattle.gl_json.proofs.bytes.word_at.Goals as goal

pub returns-in-empty : goal.returns-in-empty
returns-in-empty c = word_none c.args.word.now c.args.bytes.now c.loop-letter.rest.now c.loop-letter.letter-index c.loop-letter-test.true c.in-empty.len_below c.loop-letter.invariant
