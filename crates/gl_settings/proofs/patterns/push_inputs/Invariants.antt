use Rattle.std.proofs.Common.{◌≡◌, ◌++◌, take}
use Rattle.std.specs.List.{flat_map}
use Rattle.gl_grok.specs.Tables.{table_of}
use Rattle.gl_settings.specs.Patterns.{input_patterns}
use Rattle.gl_settings.proofs.patterns.push_inputs.Given as goal

abbrev pub invariant-loop-input : goal.invariant-loop-input
invariant-loop-input l = l.texts ≡ l.initial.texts ++ flat_map (input_patterns (table_of l.groks)) (take l.input-index l.inputs)
