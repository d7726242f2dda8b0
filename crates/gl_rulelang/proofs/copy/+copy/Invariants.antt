use Rattle.std.proofs.Common.{◌≡◌, take}
use Rattle.gl_rulelang.specs.Tree.{args_view}
use Rattle.gl_rulelang.proofs.copy.+copy.Given as goal

abbrev pub invariant-copy_arguments-loop-name : goal.invariant-copy_arguments-loop-name
invariant-copy_arguments-loop-name l = args_view l.copies.items ≡ args_view (take l.name-index l.arguments)
