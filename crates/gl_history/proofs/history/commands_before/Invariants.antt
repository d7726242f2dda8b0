use Rattle.std.proofs.Common.{ℕ, ◌<◌, get_or}
use Rattle.gl_history.proofs.history.commands_before.Given as goal

abbrev pub invariant-loop-index : goal.invariant-loop-index
invariant-loop-index l = (k : ℕ) → k < l.index → get_or l.commands k 0 < l.position
