use Rattle.std.proofs.Common.{◌≡◌, ◌≤◌, ◌++◌, length, map, take}
use Rattle.std.specs.List.{All}
use Rattle.gl_gatelog.specs.View.{batch_of}
use Rattle.gl_fields.specs.Outcomes.{outcome_bytes}
use Rattle.gl_fields.specs.Bounds.{IsOutcome}
use Rattle.gl_node.proofs.reading.take_outcomes.Given as goal

abbrev pub invariant-loop-record : goal.invariant-loop-record
invariant-loop-record l = (map outcome_bytes l.outcomes.items ≡ map outcome_bytes l.fn.outcomes.items ++ take l.record-index (batch_of l.records))
    × All IsOutcome l.outcomes.items × (length l.outcomes.items ≤ l.entries)
