use Rattle.std.proofs.Common.{◌-◌, ◌≤◌, ◌≡◌, length, take}
use Rattle.std.specs.Io.KnownBytes.{Appends}
use Rattle.gl_cli.proofs.writer.write_all.Given as goal

abbrev pub decreases-loop-at : goal.decreases-loop-at
decreases-loop-at g l = length l.initial.bytes - l.at

abbrev pub invariant-loop-at : goal.invariant-loop-at
invariant-loop-at g l = record {
  within : l.at ≤ length l.bytes;
  gained : Appends (g.K.Sink.contents l.fn.sink) (g.K.Sink.contents l.sink) (take l.at l.bytes);
  steady : g.K.Sink.faults l.sink ≡ g.K.Sink.faults l.fn.sink;
}
