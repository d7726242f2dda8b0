use Rattle.std.proofs.Common.{◌≡◌, take, map}
use Rattle.gl_gatelog.specs.View.{batch_of}
use Rattle.gl_fields.specs.Outcomes.{outcome_bytes}
use Rattle.gl_node.proofs.committing.encode_outcomes.Given as goal

abbrev pub invariant-loop-outcome : goal.invariant-loop-outcome
invariant-loop-outcome l = batch_of l.records.items ≡ map outcome_bytes (take l.outcome-index l.outcomes)
