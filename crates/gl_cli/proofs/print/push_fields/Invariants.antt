use Rattle.std.proofs.Common.{◌≡◌, ◌++◌, take}
use Rattle.gl_cli.specs.Answers.{fields_text}
use Rattle.gl_cli.proofs.print.push_fields.Given as goal

abbrev pub invariant-loop-i : goal.invariant-loop-i
invariant-loop-i l = l.out.items ≡ l.fn.out.items ++ fields_text (take l.i l.fields)
