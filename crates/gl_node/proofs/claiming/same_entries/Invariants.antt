use Rattle.std.proofs.Common.{◌≡◌, take}
use Rattle.gl_node.proofs.claiming.same_entries.Given as goal

abbrev pub invariant-loop-index : goal.invariant-loop-index
invariant-loop-index l = take l.index l.entries ≡ take l.index l.others
