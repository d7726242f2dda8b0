use Rattle.std.proofs.Common.{arith, ◌∙◌, sym}
use Rattle.gl_words.specs.Inside.{kept_in}
use Rattle.gl_words.proofs.Choosing.{least_more, least_over}
use Rattle.gl_words.proofs.postings.fewest.Goals as goal

pub loop-left-preserved : goal.loop-left-preserved
loop-left-preserved c =
    least_more (kept_in c.args.words.now) c.loop-left.left.now c.term-item.result c.loop-left.least c.shorter_than.result.now c.positions_of.result.now (omega (arith, c.in-len1-up.len_at_least)) c.term-item.is c.positions_of.ensures c.shorter_than.ensures
    ∙ c.loop-left.invariant

pub returns : goal.returns
returns c = sym (least_over (kept_in c.args.words.now) c.loop-left.left.now c.loop-left.least (omega (arith, c.in_default.len_below))) ∙ c.loop-left.invariant
