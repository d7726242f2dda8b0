use Rattle.std.proofs.Common.{◌≡◌, ◌++◌, map, take, drop}
use Rattle.gl_pool.specs.Kept.{cut_at}
use Rattle.gl_pool.proofs.span.cut.Given as goal

abbrev pub invariant-loop-span : goal.invariant-loop-span
invariant-loop-span l = l.span-items ≡ map (cut_at l.end) (take l.span-index l.initial.span-items) ++ drop l.span-index l.initial.span-items
