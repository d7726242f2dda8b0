use Rattle.std.proofs.Common.{length, ◌≤◌}
use Rattle.std.specs.Str.{IsUtf8}
use Rattle.gl_syslogtext.specs.Data.{element_at}
use Rattle.gl_syslogtext.proofs.Many.{Turns}
use Rattle.gl_syslogtext.proofs.data.elements_at.Given as goal

abbrev pub invariant-elements : goal.invariant-elements
invariant-elements l = record {
  turns : Turns 91 element_at l.text l.elements.items l.rest;
  shorter : length l.rest ≤ length l.text;
  utf8 : IsUtf8 l.rest;
}

abbrev pub decreases-elements : goal.decreases-elements
decreases-elements l = length l.rest
