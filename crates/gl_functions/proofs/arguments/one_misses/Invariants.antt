use Rattle.std.proofs.Common.{◌≡◌, length, map}
use Rattle.gl_check.specs.Functions.{asked}
use Rattle.gl_functions.specs.Calls.{one_misses}
use Rattle.gl_functions.proofs.arguments.one_misses.Given as goal

abbrev pub invariant-loop-rest : goal.invariant-loop-rest
invariant-loop-rest l = one_misses (map asked l.rest) l.given ≡ one_misses (map asked l.parameters) l.arguments

abbrev pub decreases-loop-rest : goal.decreases-loop-rest
decreases-loop-rest l = length l.rest
