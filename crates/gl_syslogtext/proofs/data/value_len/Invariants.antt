use Rattle.std.proofs.Common.{◌≡◌, ◌+◌, false, drop}
use Rattle.std.specs.Prelude.{option_map}
use Rattle.gl_syslogtext.specs.Data.{value_len}
use Rattle.gl_syslogtext.proofs.data.value_len.Given as goal

abbrev pub invariant-loop-i : goal.invariant-loop-i
invariant-loop-i l = value_len false l.bytes ≡ option_map (λ n. l.i + n) (value_len l.is_escaped (drop l.i l.bytes))
