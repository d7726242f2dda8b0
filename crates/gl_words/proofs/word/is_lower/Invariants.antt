use Rattle.std.proofs.Common.{◌≡◌, map, length, bytes_eq}
use Rattle.std.specs.Char.{to_ascii_lowercase}
use Rattle.gl_words.proofs.word.is_lower.Given as goal

abbrev pub invariant-loop-token : goal.invariant-loop-token
invariant-loop-token l = bytes_eq (map to_ascii_lowercase l.token) l.lower ≡ bytes_eq (map to_ascii_lowercase l.fn.token) l.fn.lower

abbrev pub decreases-loop-token : goal.decreases-loop-token
decreases-loop-token l = length l.token
