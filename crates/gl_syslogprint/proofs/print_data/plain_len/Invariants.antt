use Rattle.std.proofs.Common.{◌≡◌, ◌+◌, drop, not}
use Rattle.std.specs.List.{prefix_len}
use Rattle.gl_syslogtext.specs.Data.{is_special}
use Rattle.gl_syslogprint.proofs.print_data.plain_len.Given as goal

abbrev pub invariant-loop-i : goal.invariant-loop-i
invariant-loop-i l = prefix_len (λ b. not (is_special b)) l.bytes ≡ l.i + prefix_len (λ b. not (is_special b)) (drop l.i l.bytes)
