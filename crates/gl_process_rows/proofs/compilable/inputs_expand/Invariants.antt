use Rattle.std.proofs.Common.{take}
use Rattle.gl_grok.specs.Tables.{table_of}
use Rattle.gl_building.specs.Places.{InputsExpand}
use Rattle.gl_process_rows.proofs.compilable.inputs_expand.Given as goal

abbrev pub invariant-loop-input : goal.invariant-loop-input
invariant-loop-input l = InputsExpand (table_of l.groks) (take l.input-index l.inputs)
