use Rattle.std.proofs.Common.{◌≡◌, ◌++◌, drop}
use Rattle.std.specs.String.{string_bytes}
use Rattle.gl_syslogprint.specs.Printing.{params_text}
use Rattle.gl_syslogprint.proofs.print_data.push_params.Given as goal

abbrev pub invariant-loop-param : goal.invariant-loop-param
invariant-loop-param l = string_bytes l.out ++ params_text (drop l.param-index l.params) ≡ string_bytes l.fn.out ++ params_text l.params
