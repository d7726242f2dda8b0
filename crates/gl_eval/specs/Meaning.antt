-- What expressions mean: each of them a value, in every scope (this project).
use Rattle.std.specs.Prelude.{ℕ, Bool, List, [], ◌∷◌, map, Option, Some, None, unwrap_or}
use Rattle.std.specs.Map.{lookup}
use Rattle.std.specs.Str.{bytes_eq}
use Rattle.gl_fields.specs.declared.field.Field.{Field}
use Rattle.gl_fields.specs.Fields.{value_of}
use Rattle.gl_rulelang.specs.Tree.{Tree, Arguments, none, argument, RuleTree}
use Rattle.gl_rulelang.specs.Tree as trees
use Rattle.gl_check.specs.declared.function.Function.{Function}
use Rattle.gl_check.specs.Values.{Value, text, whole, truth, missing, bounded, is_true}
use Rattle.gl_check.specs.Functions.{ParameterRow, row_of, function_named}
use Rattle.gl_check.specs.Arguments.{Names, names_in, argument_for, in_places}
use Rattle.gl_functions.specs.Contents.{held_or_missing}
use Rattle.gl_functions.specs.Worlds.{Known, Sight}
use Rattle.gl_functions.specs.Operations.{prefixed, infixed}
use Rattle.gl_functions.specs.Calls.{result_of}

-- what an expression may speak of
pub record Scope : Type 0 where
  pub sight : Sight
  -- the last one first
  pub variables : List (List ℕ × Value)

-- the value that a parameter gets: that of its argument, or its default where none is given
abbrev pub value_for : Names → List Value → ℕ × ParameterRow → Value
value_for names given p = unwrap_or (argument_for given names p) (unwrap_or p.1.default missing)

-- the values of all parameters, in their order
abbrev pub values_for : List ParameterRow → Names → List Value → List Value
values_for parameters names given = map (value_for names given) (in_places parameters)

-- what a call gives of the values of its arguments, which stand in the order of the text
abbrev pub called : Sight → Option Function → Names → List Value → Value
called s None names given = missing
called s (Some f) names given = result_of s f (values_for (row_of f).parameters names given)

abbrev pub variable_in : List ℕ → List (List ℕ × Value) → Value
variable_in name variables = unwrap_or (lookup (λ other. bytes_eq name other) variables) missing

unfoldable mutual
  pub meaning : Scope → Tree → Value
  meaning s (trees.text t) = bounded (text t)
  meaning s (trees.whole n) = bounded (whole n)
  meaning s (trees.boolean b) = truth b
  meaning s (trees.field name) = bounded (held_or_missing (value_of name s.sight.fields))
  meaning s (trees.variable name) = variable_in name s.variables
  meaning s (trees.unary sign e) = bounded (prefixed sign (meaning s e))
  meaning s (trees.binary sign a b) = bounded (infixed sign (meaning s a) (meaning s b))
  meaning s (trees.call f given) = bounded (called s.sight (function_named f) (names_in given) (meanings s given))

  -- of each argument, in the order of the text
  pub meanings : Scope → Arguments → List Value
  meanings s none = []
  meanings s (argument name e more) = meaning s e ∷ meanings s more

abbrev pub at_condition : Known → List Field → List ℕ → Scope
at_condition world fields streams = record { sight = record { world = world; fields = fields; streams = streams }; variables = [] }

-- the condition of a rule is true of a message with these fields in these streams
abbrev pub condition_holds : Known → List Field → List ℕ → RuleTree → Bool
condition_holds world fields streams rule = is_true (meaning (at_condition world fields streams) rule.condition)
