-- Where the patterns of an expression lie among those of its rule.
use Rattle.std.specs.Prelude.{◌≡◌, ℕ, ◌+◌, ◌<◌, ⊤, Bool, true, false, List, [], ◌∷◌, length, take, drop, get_or, Option, Some, None, if◌then◌else◌}
use Rattle.std.specs.List.{list_any}
use Rattle.gl_rulelang.specs.Tree.{Tree, text, whole, boolean, field, variable, unary, binary, call, Arguments, none, argument, Step, assign, perform}
use Rattle.gl_check.specs.declared.function.Function.{Function}
use Rattle.gl_check.specs.Values.{Value}
use Rattle.gl_check.specs.Functions.{row_of, function_named}
use Rattle.gl_check.specs.Arguments.{in_places}
use Rattle.gl_check.specs.Checking.{lacks_pattern, patterns_for}
use Rattle.gl_functions.specs.Calls.{value_at, asks_pattern, FitsPattern}

-- from this place on the patterns are these
abbrev pub StandAt : ℕ → List (List ℕ) → List (List ℕ) → Type 0
StandAt at wanted patterns = take (length wanted) (drop at patterns) ≡ wanted

abbrev pub asks_named : Option Function → Bool
asks_named None = false
asks_named (Some f) = asks_pattern f

-- each pattern that this call takes is a string
abbrev pub HasStrings : Arguments → Option Function → Type 0
HasStrings given None = ⊤
HasStrings given (Some f) = list_any (lacks_pattern given) (in_places (row_of f).parameters) ≡ false

abbrev mutual
  -- each call inside has the strings that it takes as patterns
  pub HasPatterns : Tree → Type 0
  HasPatterns (unary sign e) = HasPatterns e
  HasPatterns (binary sign a b) = HasPatterns a × HasPatterns b
  HasPatterns (call f given) = HavePatterns given × HasStrings given (function_named f)
  HasPatterns (text s) = ⊤
  HasPatterns (whole n) = ⊤
  HasPatterns (boolean b) = ⊤
  HasPatterns (field f) = ⊤
  HasPatterns (variable x) = ⊤

  pub HavePatterns : Arguments → Type 0
  HavePatterns none = ⊤
  HavePatterns (argument name e more) = HasPatterns e × HavePatterns more

-- the same inside an action, which takes no pattern itself
abbrev pub StepHasPatterns : Step → Type 0
StepHasPatterns (assign x e) = HasPatterns e
StepHasPatterns (perform f given) = HavePatterns given × (patterns_for given (function_named f) ≡ [])

abbrev pub StepsHavePatterns : List Step → Type 0
StepsHavePatterns [] = ⊤
StepsHavePatterns (step ∷ steps) = StepHasPatterns step × StepsHavePatterns steps

-- where a function takes a pattern, the one at this place was built of its first argument
abbrev pub TakesNext : Function → List Value → List (List ℕ) → ℕ → Type 0
TakesNext f values patterns at = asks_pattern f ≡ true → (at < length patterns) × FitsPattern (get_or patterns at []) (value_at 0 values)

abbrev pub taken_by : Function → ℕ
taken_by f = if asks_pattern f then 1 else 0
