use Rattle.std.proofs.Common.{◌≡◌, take, reverse}
use Rattle.gl_check.specs.Checking.{kind_in}
use Rattle.gl_check.proofs.kinds.kind_in.Given as goal

-- the last of those that were seen
abbrev pub invariant-loop-other : goal.invariant-loop-other
invariant-loop-other l = l.found ≡ kind_in l.name (reverse (take l.other-index l.known))
