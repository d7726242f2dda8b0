use Rattle.std.proofs.Common.{refl, sym}
use Rattle.gl_cli.proofs.Readers.{begins_open}
use Rattle.gl_cli.proofs.connections.Open.new.Goals as goal

pub returns : goal.returns
returns c = record {
  input = c.in_ok-from_str.ensures;
  number = refl;
  peer = c.in_ok-from_str-2.ensures;
  some_peer = c.requires.some_peer;
  short_peer = c.requires.short_peer;
  frames = c.in_ok-new.ensures;
  closed = sym (begins_open c.args.kind);
}
