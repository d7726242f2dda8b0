use Rattle.std.proofs.Common.{◌≡◌, length}
use Rattle.gl_outside.specs.Disk.{Tells}
use Rattle.gl_node.specs.Node.{NodeOn, NodeReady}
use Rattle.gl_node.specs.State.{State}
use Rattle.gl_cli.specs.Desk.{DeskKeeps}
use Rattle.gl_cli.specs.Opened.{ForReader}
use Rattle.gl_cli.proofs.Feeding.{Served}
use Rattle.gl_cli.proofs.arriving.answer_frames.Given as goal

abbrev pub decreases-frames : goal.decreases-frames
decreases-frames g l = length l.rest

abbrev pub invariant-frames : goal.invariant-frames
invariant-frames g l = record {
  served : ForReader l.fn.frames (λ kind before. Served l.moment l.input l.peer kind before l.piece l.rest l.frames l.fn.desk l.desk
      (g.K.Sink.contents l.fn.sink) (g.K.Sink.contents l.sink) (g.D.Disk.state l.fn.disk) (g.D.Disk.state l.disk));
  keeps : (s : State) × DeskKeeps l.desk s;
  ready : Tells (g.D.Disk.state l.fn.disk) → NodeReady l.desk.node (g.D.Disk.state l.disk);
  stands : Tells (g.D.Disk.state l.fn.disk) → NodeOn l.fn.desk.node (g.D.Disk.state l.fn.disk) → NodeOn l.desk.node (g.D.Disk.state l.disk);
  tells : (g.D.Disk.state l.disk).tells ≡ (g.D.Disk.state l.fn.disk).tells;
  sink : g.K.Sink.faults l.sink ≡ g.K.Sink.faults l.fn.sink;
  disk : g.D.Disk.faults l.disk ≡ g.D.Disk.faults l.fn.disk;
}
