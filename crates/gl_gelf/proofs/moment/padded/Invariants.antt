use Rattle.std.proofs.Common.{◌≡◌, ◌≤◌, ◌<◌, ◌*◌, ◌^◌}
use Rattle.gl_gelf.proofs.moment.padded.Given as goal

abbrev pub invariant-loop-left : goal.invariant-loop-left
invariant-loop-left l = (l.n * 10 ^ l.left ≡ l.number * 10 ^ l.zeros) × (l.n ≤ 253402300799999) × (0 < l.n)

abbrev pub decreases-loop-left : goal.decreases-loop-left
decreases-loop-left l = l.left
