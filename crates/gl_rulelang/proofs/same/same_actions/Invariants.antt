use Rattle.std.proofs.Common.{◌≡◌, map, take}
use Rattle.gl_rulelang.specs.Tree.{action_of}
use Rattle.gl_rulelang.proofs.same.same_actions.Given as goal

abbrev pub invariant-loop-index : goal.invariant-loop-index
invariant-loop-index l = map action_of (take l.index l.one) ≡ map action_of (take l.index l.other)
