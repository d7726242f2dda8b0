use Rattle.std.proofs.Common.{◌≡◌, take}
use Rattle.gl_streams.proofs.stream.same_rules.Given as goal

abbrev pub invariant-loop-index : goal.invariant-loop-index
invariant-loop-index l = take l.index l.rules ≡ take l.index l.others
