use Rattle.std.proofs.Common.{◌≡◌, None, take}
use Rattle.gl_grok.specs.Tables.{table_of}
use Rattle.gl_config.specs.Applying.{inputs_cause}
use Rattle.gl_config.proofs.texts.check_inputs.Given as goal

abbrev pub invariant-loop-input : goal.invariant-loop-input
invariant-loop-input l = inputs_cause (table_of l.groks) (take l.input-index l.inputs) ≡ None
