use Rattle.std.proofs.Common.{◌≡◌, ◌++◌, drop}
use Rattle.std.specs.String.{string_bytes}
use Rattle.gl_syslogprint.specs.Printing.{elements_text}
use Rattle.gl_syslogprint.proofs.print_data.push_elements.Given as goal

abbrev pub invariant-loop-element : goal.invariant-loop-element
invariant-loop-element l = string_bytes l.out ++ elements_text (drop l.element-index l.elements) ≡ string_bytes l.fn.out ++ elements_text l.elements
