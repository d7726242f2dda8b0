use Rattle.std.proofs.Common.{◌≡◌, ◌+◌, ◌-◌, ◌^◌, min, take}
use Rattle.gl_outside.specs.Areas.{held}
use Rattle.gl_outside.proofs.memory.room_of.Given as goal

abbrev pub invariant-loop-a : goal.invariant-loop-a
invariant-loop-a l = l.room ≡ min (4096 + held (take l.a-index l.areas)) (2 ^ 64 - 1)
