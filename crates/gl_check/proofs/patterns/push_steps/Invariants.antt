use Rattle.std.proofs.Common.{◌≡◌, ◌++◌, drop, map, flat_map}
use Rattle.gl_rulelang.specs.Tree.{action_of}
use Rattle.gl_check.specs.Checking.{step_patterns}
use Rattle.gl_check.proofs.patterns.push_steps.Given as goal

-- what was pushed, and what is left
abbrev pub invariant-loop-action : goal.invariant-loop-action
invariant-loop-action l = l.out ++ flat_map step_patterns (map action_of (drop l.action-index l.actions)) ≡ l.initial.out ++ flat_map step_patterns (map action_of l.actions)
