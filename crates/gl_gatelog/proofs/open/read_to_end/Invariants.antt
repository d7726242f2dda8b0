use Rattle.std.proofs.Common.{◌≡◌, ◌-◌, ◌^◌, List}
use Rattle.gl_outside.specs.Disk.{Tells, IsUnchanged, LeavesOnly}
use Rattle.gl_gatelog.specs.Batch.{Batch}
use Rattle.gl_gatelog.specs.Progress.{HasRead, IsOfOne}
use Rattle.gl_gatelog.proofs.open.read_to_end.Given as goal

abbrev pub invariant-loop : goal.invariant-loop
invariant-loop g l = record {
  same : IsOfOne l.initial.opening l.opening;
  read : Tells (g.D.Disk.state l.initial.disk) → (b : List Batch) → HasRead l.initial.opening b (g.D.Disk.state l.initial.disk) → (more : List Batch) × HasRead l.opening more (g.D.Disk.state l.disk);
  unchanged : Tells (g.D.Disk.state l.initial.disk) → IsUnchanged (g.D.Disk.state l.initial.disk) (g.D.Disk.state l.disk);
  only_read : Tells (g.D.Disk.state l.initial.disk) → LeavesOnly (g.D.Disk.state l.initial.disk) (g.D.Disk.state l.disk) (g.D.Disk.state l.initial.disk).may_leave;
  tells : (g.D.Disk.state l.disk).tells ≡ (g.D.Disk.state l.initial.disk).tells;
  faults : g.D.Disk.faults l.disk ≡ g.D.Disk.faults l.initial.disk;
}

abbrev pub decreases-loop : goal.decreases-loop
decreases-loop g l = 2 ^ 64 - l.opening.log.bytes
