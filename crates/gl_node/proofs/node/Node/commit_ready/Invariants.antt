use Rattle.std.proofs.Common.{◌≡◌, vec_len}
use Rattle.gl_outside.specs.Disk.{Tells, LeavesOnly}
use Rattle.gl_node.specs.Claims.{commits}
use Rattle.gl_node.specs.Commits.{CommittedSome}
use Rattle.gl_node.specs.Moments.{LeftBy}
use Rattle.gl_node.specs.Node.{IsRunning, Keeps, NodeOn, NodeReady}
use Rattle.gl_node.specs.State.{State}
use Rattle.gl_node.proofs.node.Node.commit_ready.Given as goal

abbrev pub invariant-loop-at : goal.invariant-loop-at
invariant-loop-at g l = record {
  running : IsRunning l.self;
  some : (s : State) → Keeps l.initial.self s → CommittedSome s l.self;
  keeps : (s : State) × Keeps l.self s;
  same : (l.self.held ≡ l.initial.self.held) × (l.self.next ≡ l.initial.self.next);
  ready : Tells (g.D.Disk.state l.disk) → NodeReady l.self (g.D.Disk.state l.disk);
  stands : Tells (g.D.Disk.state l.disk) → NodeOn l.initial.self (g.D.Disk.state l.initial.disk) → NodeOn l.self (g.D.Disk.state l.disk);
  moments : Tells (g.D.Disk.state l.initial.disk) → NodeOn l.initial.self (g.D.Disk.state l.initial.disk) → (s : State) → Keeps l.initial.self s
      → LeavesOnly (g.D.Disk.state l.initial.disk) (g.D.Disk.state l.disk) (LeftBy s (commits s) (g.D.Disk.state l.initial.disk));
  tells : (g.D.Disk.state l.disk).tells ≡ (g.D.Disk.state l.initial.disk).tells;
  faults : g.D.Disk.faults l.disk ≡ g.D.Disk.faults l.initial.disk;
}

abbrev pub decreases-loop-at : goal.decreases-loop-at
decreases-loop-at g l = vec_len l.self.waiting
