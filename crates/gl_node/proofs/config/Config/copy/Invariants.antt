use Rattle.std.proofs.Common.{◌≡◌, take}
use Rattle.gl_node.proofs.config.Config.copy.Given as goal

abbrev pub invariant-loop-input : goal.invariant-loop-input
invariant-loop-input l = l.inputs ≡ take l.input-index l.input-items
