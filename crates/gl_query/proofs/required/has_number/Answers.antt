use Rattle.std.proofs.Common.{sym, ap, ◌∙◌}
use Rattle.std.specs.List.{list_any}
use Rattle.gl_query.specs.Required.{is_number}
use Rattle.gl_query.proofs.Gathering.{number_here, number_later, no_more}
use Rattle.gl_query.proofs.required.has_number.Goals as goal

pub returns-then-is_number : goal.returns-then-is_number
returns-then-is_number c = sym (number_here c.loop-token.text.now c.in-Some.token.now c.in-Some.rest.now c.in-Some.ensures (sym c.is_number.ensures ∙ c.if-is_number.true)) ∙ c.loop-token.invariant

pub loop-token-preserved : goal.loop-token-preserved
loop-token-preserved c = sym (number_later c.loop-token.text.now c.in-Some.token.now c.in-Some.rest.now c.in-Some.ensures (sym c.is_number.ensures ∙ c.if-is_number.false)) ∙ c.loop-token.invariant

pub returns : goal.returns
returns c = sym (ap (λ ts. list_any is_number ts) (no_more c.loop-token.text.now c.in_default.ensures)) ∙ c.loop-token.invariant
