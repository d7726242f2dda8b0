use Rattle.std.proofs.Common.{◌≡◌, ◌++◌, ◌∷◌, take, filter, nat_lt}
use Rattle.gl_eval.proofs.change.with_id.Given as goal

abbrev pub invariant-loop-other : goal.invariant-loop-other
invariant-loop-other l = l.all.items ≡ filter (λ other. nat_lt other l.id) l.ids ++ l.id ∷ filter (λ other. nat_lt l.id other) (take l.other-index l.ids)
