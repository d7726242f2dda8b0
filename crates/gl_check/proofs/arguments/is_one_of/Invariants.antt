use Rattle.std.proofs.Common.{◌≡◌, drop, map}
use Rattle.gl_check.specs.Functions.{asked}
use Rattle.gl_check.specs.Arguments.{is_one_of}
use Rattle.gl_check.proofs.arguments.is_one_of.Given as goal

-- what is left decides
abbrev pub invariant-loop-parameter : goal.invariant-loop-parameter
invariant-loop-parameter l = is_one_of (map asked (drop l.parameter-index l.parameters)) l.name ≡ is_one_of (map asked l.parameters) l.name
