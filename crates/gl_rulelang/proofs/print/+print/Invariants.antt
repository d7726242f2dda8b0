use Rattle.std.proofs.Common.{◌≡◌, ◌++◌, [], drop}
use Rattle.std.specs.Str.{IsUtf8}
use Rattle.std.specs.String.{string_bytes}
use Rattle.gl_rulelang.specs.Tree.{args_view, row}
use Rattle.gl_rulelang.specs.Printing.{listed}
use Rattle.gl_rulelang.proofs.print.+print.Given as goal

-- what was written, and what is left
abbrev pub invariant-push_arguments-loop-name : goal.invariant-push_arguments-loop-name
invariant-push_arguments-loop-name l = (string_bytes l.out ++ listed l.before (row (args_view (drop l.name-index l.arguments))) ≡ string_bytes l.initial.out ++ listed [] (row (args_view l.arguments))) × IsUtf8 l.before
