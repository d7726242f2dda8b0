-- What the code puts in the places of parameters.
use Rattle.std.specs.Prelude.{◌≡◌, ℕ, ◌≤◌, List, true, length, drop, unwrap_or}
use Rattle.gl_check.specs.Values.{Value, missing}
use Rattle.gl_check.specs.Functions.{ParameterRow}
use Rattle.gl_check.specs.Arguments.{Names, are_positional}

-- what stands for an argument that isn't given
abbrev pub default_for : ParameterRow → Value
default_for p = unwrap_or p.default missing

-- so many arguments, none of which has a name, stand in the places of the first parameters
pub record IsInPlace (given parameters : ℕ) (names : Names) : Type 0 where
  pub fits : given ≤ parameters
  pub named : given ≤ length names
  pub positional : are_positional names ≡ true
