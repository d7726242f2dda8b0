use Rattle.std.proofs.Common.{◌≡◌, ◌+◌, false, drop}
use Rattle.std.specs.Prelude.{option_map}
use Rattle.gl_rulelang.specs.Bytes.{string_len}
use Rattle.gl_rulelang.proofs.text.string_len.Given as goal

abbrev pub invariant-loop-i : goal.invariant-loop-i
invariant-loop-i l = string_len false l.bytes ≡ option_map (λ n. l.i + n) (string_len l.is_escaped (drop l.i l.bytes))
