use Rattle.std.proofs.Common.{◌≡◌, ◌+◌, drop}
use Rattle.std.specs.List.{prefix_len}
use Rattle.gl_syslogtext.specs.Data.{is_sd_byte}
use Rattle.gl_syslogtext.proofs.data.sd_name_len.Given as goal

abbrev pub invariant-loop-i : goal.invariant-loop-i
invariant-loop-i l = prefix_len is_sd_byte l.bytes ≡ l.i + prefix_len is_sd_byte (drop l.i l.bytes)
