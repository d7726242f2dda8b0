use Rattle.gl_query.proofs.Growing.{keeps_operand, keeps_room}
use Rattle.gl_query.proofs.builder.Builder.complete.Goals as goal

pub overflow_sub-self : goal.overflow_sub-self
overflow_sub-self c = let r = c.requires in keeps_room _ _ _ _ r.0 r.1 _ r.3

pub returns : goal.returns
returns c = λ here outer t k. rw c.in_ok-factors.ensures (keeps_operand _ _ _ _ here outer t k)
