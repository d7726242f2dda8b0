use Rattle.gl_query.specs.Required.{lower_tokens}
use Rattle.gl_covers.specs.Covers.{looked_in}
use Rattle.gl_covers.proofs.Texting.{chooses_more, chosen, no_choice}
use Rattle.gl_covers.proofs.texts.of_text.Goals as goal

pub loop-token-init : goal.loop-token-init
loop-token-init c = λ rows stands. no_choice rows (looked_in c.args.field.now) (lower_tokens c.args.text.now)

pub loop-token-preserved : goal.loop-token-preserved
loop-token-preserved c = λ rows stands.
    chooses_more rows (looked_in c.args.field.now) c.loop-token.found c.in_ok-found.found c.loop-token.text.now c.in-Some.token.now c.in-Some.rest.now (lower_tokens c.args.text.now) c.in-Some.ensures
    (λ so_far is. c.in_ok-found.ensures rows so_far stands is) (c.loop-token.invariant rows stands)

pub returns : goal.returns
returns c = λ rows stands.
    chosen rows (looked_in c.args.field.now) c.loop-token.found c.loop-token.text.now (lower_tokens c.args.text.now) c.in_default.ensures (c.loop-token.invariant rows stands)
