use Rattle.std.proofs.Common.{◌≡◌, ◌≤◌, ◌^◌, ◌+◌, List, true}
use Rattle.std.specs.Prelude.{IfSome}
use Rattle.std.specs.Io.KnownBytes.{IsAtEnd, prepend_known}
use Rattle.gl_outside.specs.Disk.{Tells}
use Rattle.gl_node.specs.Node.{NodeOn, NodeReady}
use Rattle.gl_node.specs.State.{Base, State, opened}
use Rattle.gl_cli.specs.Connections.{Connection}
use Rattle.gl_cli.specs.Opened.{ConnectionsStandFor}
use Rattle.gl_cli.specs.Desk.{DeskKeeps}
use Rattle.gl_cli.specs.Sessions.{ReadTo, StandFor}
use Rattle.gl_cli.proofs.Exits.{Goes}
use Rattle.gl_cli.proofs.Moments.{Leaves}
use Rattle.gl_cli.proofs.session.session.Given as goal

abbrev pub decreases-lines : goal.decreases-lines
decreases-lines g l = l.reader.budget

abbrev pub invariant-lines : goal.invariant-lines
invariant-lines g l = record {
  small : l.reader.budget + l.number ≤ 2 ^ 30;
  ended : l.reader.ended ≡ true → IsAtEnd (g.S.Source.left l.source);
  reading : IfSome (g.S.Source.left l.fn.source) (λ script.
      ReadTo script (prepend_known l.reader.waiting (g.S.Source.left l.source)) l.reader.budget l.number);
  running : (base : Base) → DeskKeeps l.fn.desk (opened base) → Goes (g.S.Source.left l.fn.source) base (g.K.Sink.contents l.fn.sink) (g.K.Sink.contents l.sink) (StandFor l.desk l.connections)
      (prepend_known l.reader.waiting (g.S.Source.left l.source)) l.reader.budget l.number l.moment;
  keeps : (s : State) × DeskKeeps l.desk s;
  opens : (cs : List Connection) × ConnectionsStandFor l.connections.all.items cs;
  moment_fits : l.moment ≤ 253402300799999;
  ready : Tells (g.D.Disk.state l.fn.disk) → NodeReady l.desk.node (g.D.Disk.state l.disk);
  stands : Tells (g.D.Disk.state l.fn.disk) → NodeOn l.fn.desk.node (g.D.Disk.state l.fn.disk) → NodeOn l.desk.node (g.D.Disk.state l.disk);
  leaves : Tells (g.D.Disk.state l.fn.disk) → NodeOn l.fn.desk.node (g.D.Disk.state l.fn.disk) → (base : Base) → DeskKeeps l.fn.desk (opened base)
      → Leaves (g.S.Source.left l.fn.source) base (g.D.Disk.state l.fn.disk) (g.D.Disk.state l.disk);
  tells : (g.D.Disk.state l.disk).tells ≡ (g.D.Disk.state l.fn.disk).tells;
  source : g.S.Source.faults l.source ≡ g.S.Source.faults l.fn.source;
  sink : g.K.Sink.faults l.sink ≡ g.K.Sink.faults l.fn.sink;
  disk : g.D.Disk.faults l.disk ≡ g.D.Disk.faults l.fn.disk;
}
