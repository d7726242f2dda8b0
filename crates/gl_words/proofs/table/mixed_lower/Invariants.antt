use Rattle.std.proofs.Common.{◌≡◌, fold, map, length}
use Rattle.std.specs.Char.{to_ascii_lowercase}
use Rattle.gl_words.specs.Inside.{mixed}
use Rattle.gl_words.proofs.table.mixed_lower.Given as goal

abbrev pub invariant-loop-rest : goal.invariant-loop-rest
invariant-loop-rest l = fold mixed l.key (map to_ascii_lowercase l.rest) ≡ fold mixed l.fn.key (map to_ascii_lowercase l.token)

abbrev pub decreases-loop-rest : goal.decreases-loop-rest
decreases-loop-rest l = length l.rest
