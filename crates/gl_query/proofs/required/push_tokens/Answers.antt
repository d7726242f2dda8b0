use Rattle.std.proofs.Common.{ℕ, List, ap, ap₂, ◌∙◌}
use Rattle.gl_query.specs.Required.{terms_of}
use Rattle.gl_query.proofs.Gathering.{pushed_more, pushed_over, terms_pushed}
use Rattle.gl_query.proofs.required.push_tokens.Goals as goal

pub loop-token-preserved : goal.loop-token-preserved
loop-token-preserved c =
    pushed_more c.loop-token.text.now c.in-Some.token.now c.in-Some.rest.now c.in-Some.ensures c.args.name.now _ (terms_of c.loop-token.out.items) (terms_of c.push.new.self.items) (c.in_ok-field.field, c.in_ok-token.token)
    (ap₂ (λ (f t : List ℕ). (f, t)) c.in_ok-field.ensures c.in_ok-token.ensures)
    (ap terms_of c.in_ok-push.ensures.items ∙ terms_pushed c.loop-token.out.items _)
    c.loop-token.invariant

pub returns : goal.returns
returns c = pushed_over c.loop-token.text.now c.args.name.now (terms_of c.loop-token.out.items) _ c.in_default.ensures c.loop-token.invariant
