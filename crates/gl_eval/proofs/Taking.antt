-- The patterns that a call takes.
use Rattle.std.proofs.Common.{◌≡◌, ℕ, zero, suc, ◌+◌, ◌<◌, List, [], ◌∷◌, Bool, true, false, length, get_or, refl, sym, ap, ◌∙◌, subst}
use Rattle.std.specs.Prelude.{⊤, Option, Some, None, is_some, is_none, option_and_then, option_map, if◌then◌else◌, ◌||◌}
use Rattle.std.specs.List.{list_any, slice_get}
use Rattle.gl_rulelang.specs.Tree.{Tree, text, whole, boolean, field, variable, unary, binary, call, Arguments, none, argument}
use Rattle.gl_check.specs.declared.function.Function.{Function}
use Rattle.gl_check.specs.declared.function.Function.TheVariants as fns
use Rattle.gl_check.specs.Values as values
use Rattle.gl_check.specs.Values.{Value, missing, bounded, is_within}
use Rattle.gl_check.specs.Functions.{ParameterRow, row_of, takes_pattern}
use Rattle.gl_check.specs.Arguments.{names_in, trees_in, argument_for, in_places, place_for}
use Rattle.gl_check.specs.Checking.{string_in, pattern_given, lacks_pattern, patterns_for}
use Rattle.gl_functions.specs.Calls.{value_at, asks_pattern, FitsPattern}
use Rattle.gl_eval.specs.Meaning.{Scope, meaning, meanings, values_for}
use Rattle.gl_eval.specs.Patterns.{StandAt, HasStrings, TakesNext, taken_by}
use Rattle.gl_eval.proofs.Standing.{stands_here}

-- the string that is given for the first parameter, a pattern
abbrev pub HasString : Arguments → List ℕ → Type 0
HasString given t = argument_for (trees_in given) (names_in given) (0, takes_pattern) ≡ Some (text t)

string_there : (o : Option Tree) (more : Bool) → (is_none (option_and_then string_in o) || more) ≡ false → (t : List ℕ) × (o ≡ Some (text t))
string_there None more e = absurd (cc)
string_there (Some (text t)) more e = (t, refl)
string_there (Some (whole n)) more e = absurd (cc)
string_there (Some (boolean b)) more e = absurd (cc)
string_there (Some (field f)) more e = absurd (cc)
string_there (Some (variable x)) more e = absurd (cc)
string_there (Some (unary sign e)) more h = absurd (cc)
string_there (Some (binary sign a b)) more h = absurd (cc)
string_there (Some (call f given)) more e = absurd (cc)

matches_string : (given : Arguments) → HasStrings given (Some fns.RegexMatches) → (t : List ℕ) × HasString given t
matches_string given h = string_there (argument_for (trees_in given) (names_in given) (0, takes_pattern)) _ h

matches_patterns : (given : Arguments) (t : List ℕ) → HasString given t → patterns_for given (Some fns.RegexMatches) ≡ t ∷ []
matches_patterns given t e = rw e

group_string : (given : Arguments) → HasStrings given (Some fns.RegexGroup) → (t : List ℕ) × HasString given t
group_string given h = string_there (argument_for (trees_in given) (names_in given) (0, takes_pattern)) _ h

group_patterns : (given : Arguments) (t : List ℕ) → HasString given t → patterns_for given (Some fns.RegexGroup) ≡ t ∷ []
group_patterns given t e = rw e

-- as many patterns as the function takes
pub taken_count : (given : Arguments) (f : Function) → HasStrings given (Some f) → length (patterns_for given (Some f)) ≡ taken_by f
taken_count given fns.HasField h = refl
taken_count given fns.IsNull h = refl
taken_count given fns.IsNotNull h = refl
taken_count given fns.IsString h = refl
taken_count given fns.IsNumber h = refl
taken_count given fns.ToString h = refl
taken_count given fns.ToLong h = refl
taken_count given fns.Contains h = refl
taken_count given fns.StartsWith h = refl
taken_count given fns.EndsWith h = refl
taken_count given fns.RegexMatches h = let t = matches_string given h in ap length (matches_patterns given t.0 t.1)
taken_count given fns.RegexGroup h = let t = group_string given h in ap length (group_patterns given t.0 t.1)
taken_count given fns.Lowercase h = refl
taken_count given fns.Uppercase h = refl
taken_count given fns.Trim h = refl
taken_count given fns.Concat h = refl
taken_count given fns.Replace h = refl
taken_count given fns.Substring h = refl
taken_count given fns.SplitItem h = refl
taken_count given fns.Length h = refl
taken_count given fns.Abs h = refl
taken_count given fns.LookupValue h = refl
taken_count given fns.SyslogLevel h = refl
taken_count given fns.SyslogFacility h = refl
taken_count given fns.InStream h = refl
taken_count given fns.SetField h = refl
taken_count given fns.RemoveField h = refl
taken_count given fns.RenameField h = refl
taken_count given fns.RouteToStream h = refl
taken_count given fns.RemoveFromStream h = refl
taken_count given fns.DropMessage h = refl

-- the value of an argument is the meaning of its tree
get_meaning : (s : Scope) (given : Arguments) (at : ℕ) (e : Tree) → slice_get (trees_in given) at ≡ Some e → slice_get (meanings s given) at ≡ Some (meaning s e)
unfolding meaning meanings
get_meaning s none at e h = absurd (cc)
get_meaning s (argument name x more) zero e h = ap (option_map (meaning s)) h
get_meaning s (argument name x more) (suc at) e h = get_meaning s more at e h

place_meaning : (s : Scope) (given : Arguments) (place : Option ℕ) (e : Tree) → option_and_then (λ at. slice_get (trees_in given) at) place ≡ Some e
    → option_and_then (λ at. slice_get (meanings s given) at) place ≡ Some (meaning s e)
place_meaning s given None e h = absurd (cc)
place_meaning s given (Some at) e h = get_meaning s given at e h

argument_meaning : (s : Scope) (given : Arguments) (p : ℕ × ParameterRow) (e : Tree) → argument_for (trees_in given) (names_in given) p ≡ Some e
    → argument_for (meanings s given) (names_in given) p ≡ Some (meaning s e)
argument_meaning s given p e h = place_meaning s given (place_for (names_in given) p) e h

fits_if : (b : Bool) (pattern t : List ℕ) → pattern ≡ t → FitsPattern pattern (if b then values.text t else missing)
fits_if true pattern t e = e
fits_if false pattern t e = tt

string_fits : (s : Scope) (pattern t : List ℕ) (v : Value) → pattern ≡ t → v ≡ meaning s (text t) → FitsPattern pattern v
unfolding meaning
string_fits s pattern t v e is = subst (λ (x : Value). FitsPattern pattern x) (sym is) (fits_if (is_within (values.text t)) pattern t e)

matches_value : (s : Scope) (given : Arguments) (t : List ℕ) → HasString given t → value_at 0 (values_for (row_of fns.RegexMatches).parameters (names_in given) (meanings s given)) ≡ meaning s (text t)
matches_value s given t e = rw (argument_meaning s given (0, takes_pattern) (text t) e)

matches_next : (s : Scope) (given : Arguments) (ps : List (List ℕ)) (at : ℕ) (t : List ℕ) → HasString given t → StandAt at (patterns_for given (Some fns.RegexMatches)) ps
    → (at < length ps) × FitsPattern (get_or ps at []) (value_at 0 (values_for (row_of fns.RegexMatches).parameters (names_in given) (meanings s given)))
matches_next s given ps at t e h =
    let here : (at < length ps) × (get_or ps at [] ≡ t) = stands_here at t ps (subst (λ (xs : List (List ℕ)). StandAt at xs ps) (matches_patterns given t e) h) in
    (here.0, string_fits s (get_or ps at []) t _ here.1 (matches_value s given t e))

group_value : (s : Scope) (given : Arguments) (t : List ℕ) → HasString given t → value_at 0 (values_for (row_of fns.RegexGroup).parameters (names_in given) (meanings s given)) ≡ meaning s (text t)
group_value s given t e = rw (argument_meaning s given (0, takes_pattern) (text t) e)

group_next : (s : Scope) (given : Arguments) (ps : List (List ℕ)) (at : ℕ) (t : List ℕ) → HasString given t → StandAt at (patterns_for given (Some fns.RegexGroup)) ps
    → (at < length ps) × FitsPattern (get_or ps at []) (value_at 0 (values_for (row_of fns.RegexGroup).parameters (names_in given) (meanings s given)))
group_next s given ps at t e h =
    let here : (at < length ps) × (get_or ps at [] ≡ t) = stands_here at t ps (subst (λ (xs : List (List ℕ)). StandAt at xs ps) (group_patterns given t e) h) in
    (here.0, string_fits s (get_or ps at []) t _ here.1 (group_value s given t e))

-- where a function takes a pattern, the next one is that of its first argument
pub takes_next : (s : Scope) (given : Arguments) (f : Function) (ps : List (List ℕ)) (at : ℕ) → HasStrings given (Some f) → StandAt at (patterns_for given (Some f)) ps
    → TakesNext f (values_for (row_of f).parameters (names_in given) (meanings s given)) ps at
takes_next s given fns.HasField ps at h st = λ asks. absurd (cc)
takes_next s given fns.IsNull ps at h st = λ asks. absurd (cc)
takes_next s given fns.IsNotNull ps at h st = λ asks. absurd (cc)
takes_next s given fns.IsString ps at h st = λ asks. absurd (cc)
takes_next s given fns.IsNumber ps at h st = λ asks. absurd (cc)
takes_next s given fns.ToString ps at h st = λ asks. absurd (cc)
takes_next s given fns.ToLong ps at h st = λ asks. absurd (cc)
takes_next s given fns.Contains ps at h st = λ asks. absurd (cc)
takes_next s given fns.StartsWith ps at h st = λ asks. absurd (cc)
takes_next s given fns.EndsWith ps at h st = λ asks. absurd (cc)
takes_next s given fns.RegexMatches ps at h st = λ asks. let t = matches_string given h in matches_next s given ps at t.0 t.1 st
takes_next s given fns.RegexGroup ps at h st = λ asks. let t = group_string given h in group_next s given ps at t.0 t.1 st
takes_next s given fns.Lowercase ps at h st = λ asks. absurd (cc)
takes_next s given fns.Uppercase ps at h st = λ asks. absurd (cc)
takes_next s given fns.Trim ps at h st = λ asks. absurd (cc)
takes_next s given fns.Concat ps at h st = λ asks. absurd (cc)
takes_next s given fns.Replace ps at h st = λ asks. absurd (cc)
takes_next s given fns.Substring ps at h st = λ asks. absurd (cc)
takes_next s given fns.SplitItem ps at h st = λ asks. absurd (cc)
takes_next s given fns.Length ps at h st = λ asks. absurd (cc)
takes_next s given fns.Abs ps at h st = λ asks. absurd (cc)
takes_next s given fns.LookupValue ps at h st = λ asks. absurd (cc)
takes_next s given fns.SyslogLevel ps at h st = λ asks. absurd (cc)
takes_next s given fns.SyslogFacility ps at h st = λ asks. absurd (cc)
takes_next s given fns.InStream ps at h st = λ asks. absurd (cc)
takes_next s given fns.SetField ps at h st = λ asks. absurd (cc)
takes_next s given fns.RemoveField ps at h st = λ asks. absurd (cc)
takes_next s given fns.RenameField ps at h st = λ asks. absurd (cc)
takes_next s given fns.RouteToStream ps at h st = λ asks. absurd (cc)
takes_next s given fns.RemoveFromStream ps at h st = λ asks. absurd (cc)
takes_next s given fns.DropMessage ps at h st = λ asks. absurd (cc)

-- an action takes no pattern
pub none_taken : (given : Arguments) (f : Function) → is_some (row_of f).gives ≡ false → patterns_for given (Some f) ≡ []
none_taken given fns.HasField e = absurd (cc)
none_taken given fns.IsNull e = absurd (cc)
none_taken given fns.IsNotNull e = absurd (cc)
none_taken given fns.IsString e = absurd (cc)
none_taken given fns.IsNumber e = absurd (cc)
none_taken given fns.ToString e = absurd (cc)
none_taken given fns.ToLong e = absurd (cc)
none_taken given fns.Contains e = absurd (cc)
none_taken given fns.StartsWith e = absurd (cc)
none_taken given fns.EndsWith e = absurd (cc)
none_taken given fns.RegexMatches e = absurd (cc)
none_taken given fns.RegexGroup e = absurd (cc)
none_taken given fns.Lowercase e = absurd (cc)
none_taken given fns.Uppercase e = absurd (cc)
none_taken given fns.Trim e = absurd (cc)
none_taken given fns.Concat e = absurd (cc)
none_taken given fns.Replace e = absurd (cc)
none_taken given fns.Substring e = absurd (cc)
none_taken given fns.SplitItem e = absurd (cc)
none_taken given fns.Length e = absurd (cc)
none_taken given fns.Abs e = absurd (cc)
none_taken given fns.LookupValue e = absurd (cc)
none_taken given fns.SyslogLevel e = absurd (cc)
none_taken given fns.SyslogFacility e = absurd (cc)
none_taken given fns.InStream e = absurd (cc)
none_taken given fns.SetField e = refl
none_taken given fns.RemoveField e = refl
none_taken given fns.RenameField e = refl
none_taken given fns.RouteToStream e = refl
none_taken given fns.RemoveFromStream e = refl
none_taken given fns.DropMessage e = refl
