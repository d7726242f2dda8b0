use Rattle.std.proofs.Common.{◌≡◌, ◌-◌, ◌^◌, ◌≤◌, List, length, map}
use Rattle.gl_outside.specs.Disk.{Tells, IsUnchanged, LeavesOnly}
use Rattle.gl_gatelog.specs.declared.kind.Log.TheVariants.{Index}
use Rattle.gl_gatelog.specs.Batch.{Batch}
use Rattle.gl_gatelog.specs.Log.{records_of}
use Rattle.gl_gatelog.specs.Progress.{HasRead}
use Rattle.gl_fields.specs.Outcomes.{outcome_bytes}
use Rattle.gl_node.specs.Opening.{IsOf}
use Rattle.std.specs.List.{All}
use Rattle.gl_fields.specs.Bounds.{IsOutcome}
use Rattle.gl_node.proofs.reading.read_index.Given as goal

abbrev pub invariant-loop-fault : goal.invariant-loop-fault
invariant-loop-fault g l = record {
  bounded : All IsOutcome l.outcomes.items;
  few : length l.outcomes.items ≤ l.fn.entries;
  of_log : IsOf Index l.fn.segment l.fn.limit (length l.outcomes.items) l.opening;
  read : Tells (g.D.Disk.state l.fn.disk) → (b : List Batch) × HasRead l.opening b (g.D.Disk.state l.disk) × (records_of b ≡ map outcome_bytes l.outcomes.items);
  unchanged : Tells (g.D.Disk.state l.fn.disk) → IsUnchanged (g.D.Disk.state l.fn.disk) (g.D.Disk.state l.disk);
  only_read : Tells (g.D.Disk.state l.fn.disk) → LeavesOnly (g.D.Disk.state l.fn.disk) (g.D.Disk.state l.disk) (g.D.Disk.state l.fn.disk).may_leave;
  tells : (g.D.Disk.state l.disk).tells ≡ (g.D.Disk.state l.fn.disk).tells;
  faults : g.D.Disk.faults l.disk ≡ g.D.Disk.faults l.fn.disk;
}

abbrev pub decreases-loop-fault : goal.decreases-loop-fault
decreases-loop-fault g l = 2 ^ 64 - l.opening.log.bytes
