use Rattle.std.proofs.Common.{◌≡◌, ◌++◌, drop}
use Rattle.std.specs.String.{string_bytes}
use Rattle.std.specs.List.{flat_map}
use Rattle.gl_rulelang.specs.Printing.{stage_text}
use Rattle.gl_rulelang.proofs.print.push_stages.Given as goal

-- what was written, and what is left
abbrev pub invariant-loop-stage : goal.invariant-loop-stage
invariant-loop-stage l = string_bytes l.out ++ flat_map stage_text (drop l.stage-index l.stages) ≡ string_bytes l.initial.out ++ flat_map stage_text l.stages
