use Rattle.gl_query.proofs.Growing.{keeps_negation}
use Rattle.gl_query.proofs.builder.Builder.negate.Goals as goal

pub returns : goal.returns
returns c = λ here outer k. rw c.in_ok-push.ensures.items (keeps_negation _ _ _ _ here outer k)
