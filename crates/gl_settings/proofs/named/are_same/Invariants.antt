use Rattle.std.proofs.Common.{◌≡◌, take}
use Rattle.gl_settings.proofs.named.are_same.Given as goal

abbrev pub invariant-loop-index : goal.invariant-loop-index
invariant-loop-index g l = take l.index l.items ≡ take l.index l.others
