use Rattle.std.specs.List.{All}
use Rattle.gl_outcome.specs.Staging.{IsStageableEntry}
use Rattle.gl_process_rows.proofs.messages.entries.Given as goal

abbrev pub invariant-loop-index : goal.invariant-loop-index
invariant-loop-index l = All (IsStageableEntry l.config) l.entries
