use Rattle.std.proofs.Common.{◌≡◌, ◌+◌, false, drop}
use Rattle.std.specs.Prelude.{option_map}
use Rattle.gl_rulelang.specs.Bytes.{comment_len}
use Rattle.gl_rulelang.proofs.text.comment_len.Given as goal

abbrev pub invariant-loop-i : goal.invariant-loop-i
invariant-loop-i l = comment_len false l.bytes ≡ option_map (λ n. l.i + n) (comment_len l.behind_star (drop l.i l.bytes))
