use Rattle.std.proofs.Common.{◌≡◌, take}
use Rattle.gl_base.specs.Digits.{decimal}
use Rattle.gl_syslogtext.proofs.sections.number.Given as goal

abbrev pub invariant-loop-d : goal.invariant-loop-d
invariant-loop-d l = l.n ≡ decimal 0 (take l.d-index l.digits)
