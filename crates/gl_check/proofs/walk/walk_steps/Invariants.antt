use Rattle.std.proofs.Common.{ℕ, [], drop, map, reverse, Result}
use Rattle.gl_rulelang.specs.Tree.{action_of}
use Rattle.gl_check.specs.declared.refusal.CheckRefusal.{CheckRefusal}
use Rattle.gl_check.specs.Checking.{steps_nodes, Walks}
use Rattle.gl_check.proofs.walk.walk_steps.Given as goal

-- what a walk over the rest answers is the answer over all
abbrev pub invariant-loop-action : goal.invariant-loop-action
invariant-loop-action l =
    (r : Result ℕ CheckRefusal) → Walks l.next (steps_nodes (reverse l.known.items) (map action_of (drop l.action-index l.actions))) r
    → Walks l.at (steps_nodes [] (map action_of l.actions)) r
