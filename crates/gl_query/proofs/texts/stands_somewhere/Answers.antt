use Rattle.std.proofs.Common.{sym, ◌∙◌}
use Rattle.gl_query.specs.Texts.{text_tokens, begins}
use Rattle.gl_query.proofs.Texting.{ends_here, ends_over, ends_goes}
use Rattle.gl_query.proofs.texts.stands_somewhere.Goals as goal

pub returns-then-begins : goal.returns-then-begins
returns-then-begins c = sym (ends_here (begins (text_tokens c.args.word.now)) c.loop-text.text.now (sym c.if-begins.ensures)) ∙ c.loop-text.invariant

pub returns-in-None : goal.returns-in-None
returns-in-None c = sym (ends_over (begins (text_tokens c.args.word.now)) c.loop-text.text.now (sym c.if-begins.ensures) c.in-None.ensures) ∙ c.loop-text.invariant

pub loop-text-preserved : goal.loop-text-preserved
loop-text-preserved c =
    sym (ends_goes (begins (text_tokens c.args.word.now)) c.loop-text.text.now _ c.in-Some.rest.now (sym c.if-begins.ensures) c.in-Some.ensures) ∙ c.loop-text.invariant
