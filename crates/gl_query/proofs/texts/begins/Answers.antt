use Rattle.std.proofs.Common.{sym, ◌∙◌}
use Rattle.gl_query.proofs.Texting.{begins_over, begins_none, begins_other, begins_goes}
use Rattle.gl_query.proofs.texts.begins.Goals as goal

pub returns-in-None : goal.returns-in-None
returns-in-None c =
    sym (begins_none c.loop-token.word.now c.loop-token.text.now c.in-Some.token.now c.in-Some.more.now c.in-Some.ensures c.in-None.ensures) ∙ c.loop-token.invariant

pub returns-then-not-same_token : goal.returns-then-not-same_token
returns-then-not-same_token c =
    sym (begins_other c.loop-token.word.now c.loop-token.text.now c.in-Some.token.now c.in-Some.more.now c.in-Some-next_token.other.now c.in-Some-next_token.rest.now c.in-Some.ensures c.in-Some-next_token.ensures (sym c.if-not-same_token.ensures))
    ∙ c.loop-token.invariant

pub loop-token-preserved : goal.loop-token-preserved
loop-token-preserved c =
    sym (begins_goes c.loop-token.word.now c.loop-token.text.now c.in-Some.token.now c.in-Some.more.now c.in-Some-next_token.other.now c.in-Some-next_token.rest.now c.in-Some.ensures c.in-Some-next_token.ensures (sym c.if-not-same_token.ensures))
    ∙ c.loop-token.invariant

pub returns : goal.returns
returns c = sym (begins_over c.loop-token.word.now c.loop-token.text.now c.in_default.ensures) ∙ c.loop-token.invariant
