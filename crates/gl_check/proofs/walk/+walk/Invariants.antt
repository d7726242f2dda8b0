use Rattle.std.proofs.Common.{ℕ, drop, reverse, Result}
use Rattle.gl_rulelang.specs.Tree.{args_view, row}
use Rattle.gl_check.specs.declared.refusal.CheckRefusal.{CheckRefusal}
use Rattle.gl_check.specs.Checking.{argument_nodes, Walks}
use Rattle.gl_check.proofs.walk.+walk.Given as goal

-- what a walk over the rest answers is the answer over all
abbrev pub invariant-walk_arguments-loop-argument : goal.invariant-walk_arguments-loop-argument
invariant-walk_arguments-loop-argument l =
    (r : Result ℕ CheckRefusal) → Walks l.next (argument_nodes (reverse l.known) (row (args_view (drop l.argument-index l.arguments)))) r
    → Walks l.at (argument_nodes (reverse l.known) (row (args_view l.arguments))) r
