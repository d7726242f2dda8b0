use Rattle.std.proofs.Common.{◌≡◌, ◌++◌, false, length}
use Rattle.std.specs.Str.{IsUtf8}
use Rattle.std.specs.String.{string_bytes}
use Rattle.gl_syslogtext.specs.Data.{unescaped}
use Rattle.gl_syslogtext.proofs.data.unescape.Given as goal

-- what was written, and what is left to spell
abbrev pub invariant-loop-plain : goal.invariant-loop-plain
invariant-loop-plain l = (string_bytes l.out ++ unescaped false l.rest ≡ unescaped false l.spelled) × IsUtf8 l.rest

abbrev pub decreases-loop-plain : goal.decreases-loop-plain
decreases-loop-plain l = length l.rest
