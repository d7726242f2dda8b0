use Rattle.std.proofs.Common.{◌≡◌, ◌++◌, drop, map}
use Rattle.gl_check.specs.Functions.{asked}
use Rattle.gl_eval.specs.Fitting.{default_for}
use Rattle.gl_eval.proofs.arguments.push_defaults.Given as goal

-- with the rest of the defaults the stack is the one that is to be
abbrev pub invariant-loop-parameter : goal.invariant-loop-parameter
invariant-loop-parameter l =
    l.stack.items ++ map default_for (map asked (drop l.parameter-index l.parameters)) ≡ l.fn.stack.items ++ map default_for (map asked l.parameters)
