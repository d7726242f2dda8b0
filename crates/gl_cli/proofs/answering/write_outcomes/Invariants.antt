use Rattle.std.proofs.Common.{◌≡◌}
use Rattle.std.specs.Io.KnownBytes.{Appends}
use Rattle.gl_node.specs.Node.{Keeps}
use Rattle.gl_node.specs.State.{State, outcomes}
use Rattle.gl_cli.proofs.Turns.{lines_to}
use Rattle.gl_cli.proofs.answering.write_outcomes.Given as goal

abbrev pub invariant-loop-position : goal.invariant-loop-position
invariant-loop-position g l = record {
  written : (s : State) → Keeps l.node s → Appends (g.K.Sink.contents l.fn.sink) (g.K.Sink.contents l.sink) (lines_to 0 l.position (outcomes s));
  steady : g.K.Sink.faults l.sink ≡ g.K.Sink.faults l.fn.sink;
}
