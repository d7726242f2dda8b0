use Rattle.std.proofs.Common.{◌≡◌, drop, deque_capacity}
use Rattle.gl_history.proofs.history.drop_front.Given as goal

abbrev pub invariant-loop-index : goal.invariant-loop-index
invariant-loop-index l = (l.configs.items ≡ drop l.index l.initial.configs.items) × (deque_capacity l.configs ≡ deque_capacity l.initial.configs)
