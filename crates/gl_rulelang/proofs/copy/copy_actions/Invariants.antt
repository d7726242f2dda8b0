use Rattle.std.proofs.Common.{◌≡◌, map, take}
use Rattle.gl_rulelang.specs.Tree.{action_of}
use Rattle.gl_rulelang.proofs.copy.copy_actions.Given as goal

abbrev pub invariant-loop-action : goal.invariant-loop-action
invariant-loop-action l = map action_of l.copies.items ≡ map action_of (take l.action-index l.actions)
