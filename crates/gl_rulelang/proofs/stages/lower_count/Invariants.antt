use Rattle.std.proofs.Common.{◌≡◌, ◌+◌, drop}
use Rattle.std.specs.List.{prefix_len}
use Rattle.gl_rulelang.specs.Pipelines.{is_lower}
use Rattle.gl_rulelang.proofs.stages.lower_count.Given as goal

abbrev pub invariant-loop-i : goal.invariant-loop-i
invariant-loop-i l = prefix_len (is_lower l.number) l.stages ≡ l.i + prefix_len (is_lower l.number) (drop l.i l.stages)
