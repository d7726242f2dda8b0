-- Which argument of a call each parameter gets (this project). An argument has a name or none; the arguments of a call stand in
-- the order of the text.
use Rattle.std.specs.Prelude.{ℕ, Bool, true, false, not, ◌&&◌, ◌||◌, nat_le, nat_lt, List, [], ◌∷◌, length, map, slice_get, Option, Some, None, is_some, is_none, option_and_then, if◌then◌else◌}
use Rattle.std.specs.List.{list_all, list_any, enumerate_from, position_from}
use Rattle.std.specs.Str.{bytes_eq}
use Rattle.gl_rulelang.specs.declared.rule.Expr.{Expr}
use Rattle.gl_rulelang.specs.Tree.{Tree, Arguments, none, argument, tree_of}
use Rattle.gl_check.specs.Functions.{ParameterRow}

-- the names of the arguments of a call
abbrev pub Names : Type 0
Names = List (Option (List ℕ))

abbrev pub names_in : Arguments → Names
names_in none = []
names_in (argument name e more) = name ∷ names_in more

-- the arguments themselves
abbrev pub trees_in : Arguments → List Tree
trees_in none = []
trees_in (argument name e more) = e ∷ trees_in more

-- both of arguments as the code has them
abbrev pub names_view : List (Option (List ℕ) × Expr) → Names
names_view given = map (λ a. a.0) given

abbrev pub trees_view : List (Option (List ℕ) × Expr) → List Tree
trees_view given = map (λ a. tree_of a.1) given

-- no argument has a name
abbrev pub are_positional : Names → Bool
are_positional names = list_all is_none names

-- each argument has a name
abbrev pub are_named : Names → Bool
are_named names = list_all is_some names

abbrev pub is_called : List ℕ → Option (List ℕ) → Bool
is_called name None = false
is_called name (Some other) = bytes_eq name other

-- the place of the argument that the parameter at this place gets: the same place, or that of the first argument of its name
abbrev pub place_for : Names → ℕ × ParameterRow → Option ℕ
place_for names p =
    if are_positional names then (if nat_lt p.0 (length names) then Some p.0 else None)
    else position_from (is_called p.1.name) 0 names

-- the argument that a parameter gets. `A` is what is known of an argument: its tree, its kind or its value
abbrev pub argument_for : {A : Type 0} → List A → Names → ℕ × ParameterRow → Option A
argument_for given names p = option_and_then (λ at. slice_get given at) (place_for names p)

abbrev pub in_places : List ParameterRow → List (ℕ × ParameterRow)
in_places parameters = enumerate_from 0 parameters

-- a name is one of those behind it
abbrev pub comes_again : Option (List ℕ) → Names → Bool
comes_again None behind = false
comes_again (Some name) behind = list_any (is_called name) behind

-- no name comes twice
abbrev pub are_once_each : Names → Bool
are_once_each [] = true
are_once_each (name ∷ names) = not (comes_again name names) && are_once_each names

abbrev pub is_one_of : List ParameterRow → Option (List ℕ) → Bool
is_one_of parameters name = list_any (λ p. is_called p.name name) parameters

abbrev pub is_served : Names → ℕ × ParameterRow → Bool
is_served names p = is_some p.1.default || is_some (place_for names p)

-- all are named or none is; none is too many, repeated or of another name
abbrev pub are_in_form : List ParameterRow → Names → Bool
are_in_form parameters names =
    are_positional names && nat_le (length names) (length parameters)
    || are_named names && list_all (is_one_of parameters) names && are_once_each names

-- and none without a default is left out
abbrev pub are_fitting : List ParameterRow → Names → Bool
are_fitting parameters names = are_in_form parameters names && list_all (is_served names) (in_places parameters)
