use Rattle.std.proofs.Common.{◌≡◌, take}
use Rattle.gl_node.proofs.config.same_inputs.Given as goal

abbrev pub invariant-loop-index : goal.invariant-loop-index
invariant-loop-index l = take l.index l.inputs ≡ take l.index l.others
