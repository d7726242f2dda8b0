use Rattle.std.proofs.Common.{◌≡◌, ◌+◌, drop}
use Rattle.std.specs.List.{prefix_len}
use Rattle.gl_lines.specs.ZeroFronts.{is_zero}
use Rattle.gl_lines.proofs.zero_front.zeros_len.Given as goal

abbrev pub invariant-loop-i : goal.invariant-loop-i
invariant-loop-i l = prefix_len is_zero l.bytes ≡ l.i + prefix_len is_zero (drop l.i l.bytes)
