use Rattle.std.proofs.Common.{◌≡◌, length, map}
use Rattle.gl_eval.specs.Meaning.{variable_in}
use Rattle.gl_eval.specs.Scopes.{named_value}
use Rattle.gl_eval.proofs.scope.variable_in.Given as goal

abbrev pub invariant-loop-rest : goal.invariant-loop-rest
invariant-loop-rest l = variable_in l.name (map named_value l.rest) ≡ variable_in l.name (map named_value l.variables)

abbrev pub decreases-loop-rest : goal.decreases-loop-rest
decreases-loop-rest l = length l.rest
