use Rattle.std.proofs.Common.{◌≡◌, ◌++◌, drop, map}
use Rattle.std.specs.String.{string_bytes}
use Rattle.std.specs.List.{flat_map}
use Rattle.gl_rulelang.specs.Tree.{action_of}
use Rattle.gl_rulelang.specs.Printing.{step_text}
use Rattle.gl_rulelang.proofs.print.push_actions.Given as goal

-- what was written, and what is left
abbrev pub invariant-loop-action : goal.invariant-loop-action
invariant-loop-action l = string_bytes l.out ++ flat_map step_text (map action_of (drop l.action-index l.actions)) ≡ string_bytes l.initial.out ++ flat_map step_text (map action_of l.actions)
