use Rattle.std.proofs.Common.{◌≡◌, map, take}
use Rattle.std.specs.List.{All}
use Rattle.gl_fields.specs.Bounds.{IsOutcome}
use Rattle.gl_outcome.specs.Outcomes.{outcome_under}
use Rattle.gl_outcome.proofs.entries.stage_entries.Given as goal

abbrev pub invariant-loop-entry : goal.invariant-loop-entry
invariant-loop-entry l = record {
  staged : l.outcomes ≡ map (outcome_under l.fn.compiled) (take l.entry-index l.entries);
  bounded : All IsOutcome l.outcomes;
  same : l.compiled ≡ l.fn.compiled;
}
