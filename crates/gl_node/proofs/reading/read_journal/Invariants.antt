use Rattle.std.proofs.Common.{◌≡◌, ◌-◌, ◌^◌, List, length, map}
use Rattle.gl_outside.specs.Disk.{Tells, IsUnchanged, LeavesOnly}
use Rattle.gl_gatelog.specs.declared.kind.Log.TheVariants.{Journal}
use Rattle.gl_gatelog.specs.Batch.{Batch}
use Rattle.gl_gatelog.specs.Log.{records_of}
use Rattle.gl_gatelog.specs.Progress.{HasRead}
use Rattle.gl_fields.specs.Entries.{entry_bytes}
use Rattle.gl_node.specs.Opening.{IsOf}
use Rattle.gl_node.specs.Standing.{IsLawful}
use Rattle.gl_node.proofs.reading.read_journal.Given as goal

abbrev pub invariant-loop-fault : goal.invariant-loop-fault
invariant-loop-fault g l = record {
  lawful : IsLawful l.entries.items;
  of_log : IsOf Journal l.fn.segment l.fn.limit (length l.entries.items) l.opening;
  read : Tells (g.D.Disk.state l.fn.disk) → (b : List Batch) × HasRead l.opening b (g.D.Disk.state l.disk) × (records_of b ≡ map entry_bytes l.entries.items);
  unchanged : Tells (g.D.Disk.state l.fn.disk) → IsUnchanged (g.D.Disk.state l.fn.disk) (g.D.Disk.state l.disk);
  only_read : Tells (g.D.Disk.state l.fn.disk) → LeavesOnly (g.D.Disk.state l.fn.disk) (g.D.Disk.state l.disk) (g.D.Disk.state l.fn.disk).may_leave;
  tells : (g.D.Disk.state l.disk).tells ≡ (g.D.Disk.state l.fn.disk).tells;
  faults : g.D.Disk.faults l.disk ≡ g.D.Disk.faults l.fn.disk;
}

abbrev pub decreases-loop-fault : goal.decreases-loop-fault
decreases-loop-fault g l = 2 ^ 64 - l.opening.log.bytes
