use Rattle.std.proofs.Common.{length, ◌≤◌}
use Rattle.std.specs.Str.{IsUtf8}
use Rattle.gl_syslogtext.specs.Data.{param_at}
use Rattle.gl_syslogtext.proofs.Many.{Turns}
use Rattle.gl_syslogtext.proofs.data.params_at.Given as goal

abbrev pub invariant-params : goal.invariant-params
invariant-params l = record {
  turns : Turns 32 param_at l.text l.params.items l.rest;
  shorter : length l.rest ≤ length l.text;
  utf8 : IsUtf8 l.rest;
}

abbrev pub decreases-params : goal.decreases-params
decreases-params l = length l.rest
