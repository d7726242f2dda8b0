use Rattle.std.proofs.Common.{◌≡◌, ◌++◌, length}
use Rattle.std.specs.Str.{IsUtf8}
use Rattle.std.specs.String.{string_bytes}
use Rattle.gl_syslogprint.specs.Printing.{escaped}
use Rattle.gl_syslogprint.proofs.print_data.push_escaped.Given as goal

-- what was written, and what is left to write
abbrev pub invariant-rest : goal.invariant-rest
invariant-rest l = record {
  written : string_bytes l.out ++ escaped l.rest ≡ string_bytes l.fn.out ++ escaped l.value;
  utf8 : IsUtf8 l.rest;
}

abbrev pub decreases-rest : goal.decreases-rest
decreases-rest l = length l.rest
