-- An expression without a fault means a value of its kind.
use Rattle.std.proofs.Common.{◌≡◌, ℕ, ℤ, pos, negsuc, zero, suc, ◌+◌, List, [], ◌∷◌, ◌++◌, Bool, true, false, refl, sym, ap, ◌∙◌, subst}
use Rattle.std.specs.Prelude.{⊤, IsTrue, Option, Some, None, is_some, is_none, option_and_then, option_map, unwrap_or, fold, if◌then◌else◌, ◌||◌, ◌&&◌, not, codes, int_div, int_rem, neg_ℤ, ◌+ℤ◌, ◌-ℤ◌, ◌*ℤ◌, unsigned_abs, nat_lt, ◌^◌, length, slice_range}
use Rattle.std.specs.List.{list_any, slice_get, enumerate_from}
use Rattle.std.specs.Map.{lookup}
use Rattle.std.specs.Str.{bytes_eq, chars}
use Rattle.gl_fields.specs.declared.field.Field.{Field}
use Rattle.gl_fields.specs.declared.value.Value.{Value as Held}
use Rattle.gl_fields.specs.declared.value.Value.TheVariants as held
use Rattle.gl_fields.specs.Fields.{value_of}
use Rattle.gl_rulelang.specs.declared.rule.Unary.TheVariants as prefixes
use Rattle.gl_rulelang.specs.declared.rule.Binary.TheVariants as infixes
use Rattle.gl_rulelang.specs.Tree.{Tree, field, variable, unary, binary, call, Arguments, none, argument, Step, assign, perform, RuleTree}
use Rattle.gl_rulelang.specs.Tree as trees
use Rattle.gl_check.specs.declared.kind.Kind.{Kind}
use Rattle.gl_check.specs.declared.kind.Kind.TheVariants as kinds
use Rattle.gl_check.specs.declared.stand.Stand.{Stand}
use Rattle.gl_check.specs.declared.stand.Stand.TheVariants as stands
use Rattle.gl_check.specs.declared.function.Function.{Function}
use Rattle.gl_check.specs.declared.function.Function.TheVariants as fns
use Rattle.gl_check.specs.Values.{Value, text, whole, truth, missing, bounded, is_within, is_missing, text_of}
use Rattle.gl_check.specs.Functions.{ParameterRow, row_of, function_named, gives_named, takes_or}
use Rattle.gl_check.specs.Arguments.{names_in, trees_in, argument_for, in_places, place_for}
use Rattle.gl_check.specs.Checking.{Kinds, kind_in, kind_of, is_kind, is_wrong, is_wrong_condition, takes_wrong, is_wrongly_given, has_wrong_arguments, is_misplaced, has_bad_arguments, Node, node, nodes_of, argument_nodes, step_nodes, steps_nodes, known_behind, rule_nodes, faults_from, first_fault}
use Rattle.gl_patterns.specs.Patterns.{group_in}
use Rattle.gl_text.specs.Texts.{piece, characters}
use Rattle.gl_text.specs.Changing.{lowercase, uppercase, trimmed, replaced}
use Rattle.gl_text.specs.SyslogNames.{severity_name, facility_name}
use Rattle.gl_functions.specs.Contents.{held_or_missing, whole_in}
use Rattle.gl_functions.specs.Worlds.{Known, Sight, looked_up}
use Rattle.gl_functions.specs.Operations.{prefixed, infixed, negated, both, of_pair, unless_zero, is_zero}
use Rattle.gl_functions.specs.Calls.{value_at, text_at, number_at, text_or_missing, part_of, from_zero_on, or_else, text_or, number_of, number_or, group_part, name_below, given_by, one_misses, without_result, result_of}
use Rattle.gl_eval.specs.declared.staged.Staged.{Staged}
use Rattle.gl_eval.specs.Meaning.{Scope, meaning, meanings, value_for, values_for, called, variable_in, at_condition}
use Rattle.gl_eval.specs.Actions.{Course, course_behind, stepped, stepped_or_dropped}
use Rattle.gl_eval.specs.Typing.{is_of_kind, AreOfKinds, HasItsKind, ConditionIsDecided, VariablesHaveTheirKinds}
use Rattle.std.proofs.lemmas.Bool.{false≢true}
use Rattle.gl_eval.proofs.Courses.{dropped_stays}
use Rattle.gl_eval.proofs.Sound.{IsSound, AreSound, all_sound, rule_sound, front_sound, rest_sound, middle_of_three}

-- the value is of the kind, where there is one
abbrev pub IsOf : Option Kind → Value → Type 0
IsOf None v = ⊤
IsOf (Some k) v = is_of_kind k v ≡ true

-- Values that are made within bounds.

bounded_text : (t : List ℕ) → is_of_kind kinds.Text (bounded (text t)) ≡ true
bounded_text t = by_within (is_within (text t))
  where
    by_within : (b : Bool) → is_of_kind kinds.Text (if b then text t else missing) ≡ true
    by_within true = refl
    by_within false = refl

bounded_whole : (n : ℤ) → is_of_kind kinds.Whole (bounded (whole n)) ≡ true
bounded_whole n = by_within (is_within (whole n))
  where
    by_within : (b : Bool) → is_of_kind kinds.Whole (if b then whole n else missing) ≡ true
    by_within true = refl
    by_within false = refl

any_text : (t : List ℕ) → is_of_kind kinds.Any (bounded (text t)) ≡ true
any_text t = by_within (is_within (text t))
  where
    by_within : (b : Bool) → is_of_kind kinds.Any (if b then text t else missing) ≡ true
    by_within true = refl
    by_within false = refl

any_whole : (n : ℤ) → is_of_kind kinds.Any (bounded (whole n)) ≡ true
any_whole n = by_within (is_within (whole n))
  where
    by_within : (b : Bool) → is_of_kind kinds.Any (if b then whole n else missing) ≡ true
    by_within true = refl
    by_within false = refl

bounded_held : (o : Option Held) → is_of_kind kinds.Any (bounded (held_or_missing o)) ≡ true
bounded_held None = refl
bounded_held (Some (held.Text t)) = any_text t
bounded_held (Some (held.Whole n)) = any_whole n

bounded_option : (o : Option (List ℕ)) → is_of_kind kinds.Text (bounded (text_or_missing o)) ≡ true
bounded_option None = refl
bounded_option (Some t) = bounded_text t

-- what is of the kind stays so within bounds
text_stays : (v : Value) → is_of_kind kinds.Text v ≡ true → is_of_kind kinds.Text (bounded v) ≡ true
text_stays (text t) e = bounded_text t
text_stays missing e = refl
text_stays (whole n) e = absurd (cc)
text_stays (truth b) e = absurd (cc)

whole_stays : (v : Value) → is_of_kind kinds.Whole v ≡ true → is_of_kind kinds.Whole (bounded v) ≡ true
whole_stays (text t) e = absurd (cc)
whole_stays missing e = refl
whole_stays (whole n) e = bounded_whole n
whole_stays (truth b) e = absurd (cc)

from_zero_text : (f : ℕ → Value) (n : ℤ) → ((k : ℕ) → is_of_kind kinds.Text (bounded (f k)) ≡ true) → is_of_kind kinds.Text (bounded (from_zero_on f n)) ≡ true
from_zero_text f (pos k) h = h k
from_zero_text f (negsuc k) h = refl

text_or_missing_if : (b : Bool) (v : Value) → is_of_kind kinds.Text (bounded v) ≡ true → is_of_kind kinds.Text (bounded (if b then v else missing)) ≡ true
text_or_missing_if true v e = e
text_or_missing_if false v e = refl

-- Signs.

negated_kind : (o : Option ℤ) → is_of_kind kinds.Whole (bounded (negated o)) ≡ true
negated_kind None = refl
negated_kind (Some n) = bounded_whole (neg_ℤ n)

of_pair_kind : (f : ℤ → ℤ → Value) (o : Option (ℤ × ℤ)) → ((a b : ℤ) → is_of_kind kinds.Whole (bounded (f a b)) ≡ true) → is_of_kind kinds.Whole (bounded (of_pair f o)) ≡ true
of_pair_kind f None h = refl
of_pair_kind f (Some p) h = h p.0 p.1

unless_zero_kind : (f : ℤ → ℤ → ℤ) (a b : ℤ) → is_of_kind kinds.Whole (bounded (unless_zero f a b)) ≡ true
unless_zero_kind f a b = by_zero (is_zero b)
  where
    by_zero : (z : Bool) → is_of_kind kinds.Whole (bounded (if z then missing else whole (f a b))) ≡ true
    by_zero true = refl
    by_zero false = bounded_whole (f a b)

-- Functions. Three of them may give their default.

default_text : (b : Bool) (t : List ℕ) (other : Value) → is_of_kind kinds.Text other ≡ true → is_of_kind kinds.Text (bounded (if b then other else text t)) ≡ true
default_text true t other e = text_stays other e
default_text false t other e = bounded_text t

default_number : (o : Option ℤ) (other : Value) → is_of_kind kinds.Whole other ≡ true → is_of_kind kinds.Whole (bounded (number_or o other)) ≡ true
default_number None other e = whole_stays other e
default_number (Some n) other e = bounded_whole n

default_found : (o : Option (List ℕ)) (other : Value) → is_of_kind kinds.Text other ≡ true → is_of_kind kinds.Text (bounded (or_else (text_or_missing o) other)) ≡ true
default_found None other e = text_stays other e
default_found (Some t) other e = bounded_text t

part_kind : (t : List ℕ) (span : Option (ℕ × ℕ)) → is_of_kind kinds.Text (bounded (part_of t span)) ≡ true
part_kind t None = refl
part_kind t (Some span) = bounded_text (slice_range t span.0 span.1)

group_kind : (pattern t : List ℕ) (k : ℕ) → is_of_kind kinds.Text (bounded (group_part pattern t k)) ≡ true
group_kind pattern t k = text_or_missing_if (nat_lt k (2 ^ 32)) (part_of t (group_in pattern t k)) (part_kind t (group_in pattern t k))

name_kind : (count : ℕ) (name : ℕ → List ℕ) (k : ℕ) → is_of_kind kinds.Text (bounded (name_below count name k)) ≡ true
name_kind count name k = text_or_missing_if (nat_lt k count) (text (name k)) (bounded_text (name k))

-- the default that was given or stands in the table has its kind
abbrev DefaultIsOf : Function → List Value → Type 0
DefaultIsOf fns.HasField _ = ⊤
DefaultIsOf fns.IsNull _ = ⊤
DefaultIsOf fns.IsNotNull _ = ⊤
DefaultIsOf fns.IsString _ = ⊤
DefaultIsOf fns.IsNumber _ = ⊤
DefaultIsOf fns.ToString values = is_of_kind kinds.Text (value_at 1 values) ≡ true
DefaultIsOf fns.ToLong values = is_of_kind kinds.Whole (value_at 1 values) ≡ true
DefaultIsOf fns.Contains _ = ⊤
DefaultIsOf fns.StartsWith _ = ⊤
DefaultIsOf fns.EndsWith _ = ⊤
DefaultIsOf fns.RegexMatches _ = ⊤
DefaultIsOf fns.RegexGroup _ = ⊤
DefaultIsOf fns.Lowercase _ = ⊤
DefaultIsOf fns.Uppercase _ = ⊤
DefaultIsOf fns.Trim _ = ⊤
DefaultIsOf fns.Concat _ = ⊤
DefaultIsOf fns.Replace _ = ⊤
DefaultIsOf fns.Substring _ = ⊤
DefaultIsOf fns.SplitItem _ = ⊤
DefaultIsOf fns.Length _ = ⊤
DefaultIsOf fns.Abs _ = ⊤
DefaultIsOf fns.LookupValue values = is_of_kind kinds.Text (value_at 2 values) ≡ true
DefaultIsOf fns.SyslogLevel _ = ⊤
DefaultIsOf fns.SyslogFacility _ = ⊤
DefaultIsOf fns.InStream _ = ⊤
DefaultIsOf fns.SetField _ = ⊤
DefaultIsOf fns.RemoveField _ = ⊤
DefaultIsOf fns.RenameField _ = ⊤
DefaultIsOf fns.RouteToStream _ = ⊤
DefaultIsOf fns.RemoveFromStream _ = ⊤
DefaultIsOf fns.DropMessage _ = ⊤

given_kind : (s : Sight) (f : Function) (values : List Value) → DefaultIsOf f values → IsOf (row_of f).gives (bounded (given_by s f values))
given_kind s fns.HasField values d = refl
given_kind s fns.IsNull values d = refl
given_kind s fns.IsNotNull values d = refl
given_kind s fns.IsString values d = refl
given_kind s fns.IsNumber values d = refl
given_kind s fns.ToString values d = default_text (is_missing (value_at 0 values)) (text_of (value_at 0 values)) (value_at 1 values) d
given_kind s fns.ToLong values d = default_number (number_of (value_at 0 values)) (value_at 1 values) d
given_kind s fns.Contains values d = refl
given_kind s fns.StartsWith values d = refl
given_kind s fns.EndsWith values d = refl
given_kind s fns.RegexMatches values d = refl
given_kind s fns.RegexGroup values d = from_zero_text (group_part (text_at 0 values) (text_at 1 values)) (number_at 2 values) (group_kind (text_at 0 values) (text_at 1 values))
given_kind s fns.Lowercase values d = bounded_text (lowercase (text_at 0 values))
given_kind s fns.Uppercase values d = bounded_text (uppercase (text_at 0 values))
given_kind s fns.Trim values d = bounded_text (trimmed (text_at 0 values))
given_kind s fns.Concat values d = bounded_text (text_at 0 values ++ text_at 1 values)
given_kind s fns.Replace values d = bounded_text (replaced (text_at 1 values) (text_at 2 values) (text_at 0 values))
given_kind s fns.Substring values d = from_zero_text (λ begin. from_zero_on (λ end. part_of (text_at 0 values) (characters begin end (text_at 0 values))) (number_at 2 values)) (number_at 1 values) (λ begin. from_zero_text (λ end. part_of (text_at 0 values) (characters begin end (text_at 0 values))) (number_at 2 values) (λ end. part_kind (text_at 0 values) (characters begin end (text_at 0 values))))
given_kind s fns.SplitItem values d = from_zero_text (λ index. part_of (text_at 0 values) (piece (text_at 1 values) index (text_at 0 values))) (number_at 2 values) (λ index. part_kind (text_at 0 values) (piece (text_at 1 values) index (text_at 0 values)))
given_kind s fns.Length values d = bounded_whole (pos (length (chars (text_at 0 values))))
given_kind s fns.Abs values d = bounded_whole (pos (unsigned_abs (number_at 0 values)))
given_kind s fns.LookupValue values d = default_found (looked_up s.world (text_at 0 values) (text_at 1 values)) (value_at 2 values) d
given_kind s fns.SyslogLevel values d = from_zero_text (name_below 8 severity_name) (number_at 0 values) (name_kind 8 severity_name)
given_kind s fns.SyslogFacility values d = from_zero_text (name_below 24 facility_name) (number_at 0 values) (name_kind 24 facility_name)
given_kind s fns.InStream values d = refl
given_kind s fns.SetField values d = tt
given_kind s fns.RemoveField values d = tt
given_kind s fns.RenameField values d = tt
given_kind s fns.RouteToStream values d = tt
given_kind s fns.RemoveFromStream values d = tt
given_kind s fns.DropMessage values d = tt

without_kind : (o : Option Kind) → IsOf o (bounded (without_result o))
without_kind None = tt
without_kind (Some kinds.Bool) = refl
without_kind (Some kinds.Text) = refl
without_kind (Some kinds.Whole) = refl
without_kind (Some kinds.Any) = refl

result_if : (b : Bool) (o : Option Kind) (one other : Value) → IsOf o (bounded one) → IsOf o (bounded other) → IsOf o (bounded (if b then one else other))
result_if true o one other h g = h
result_if false o one other h g = g

result_kind : (s : Sight) (f : Function) (values : List Value) → DefaultIsOf f values → IsOf (row_of f).gives (bounded (result_of s f values))
result_kind s f values d = result_if (one_misses (row_of f).parameters values) (row_of f).gives (without_result (row_of f).gives) (given_by s f values) (without_kind (row_of f).gives) (given_kind s f values d)

-- Variables.

variable_kind : (name : List ℕ) (known : Kinds) (variables : List (List ℕ × Value)) → AreOfKinds known variables → IsOf (kind_in name known) (variable_in name variables)
variable_kind name [] [] h = tt
variable_kind name [] (v ∷ variables) h = absurd h
variable_kind name (k ∷ known) [] h = absurd h
variable_kind name (k ∷ known) (v ∷ variables) h =
    subst (λ (other : List ℕ). IsOf (if bytes_eq name k.0 then Some k.1 else kind_in name known) (unwrap_or (if bytes_eq name other then Some v.1 else lookup (λ x. bytes_eq name x) variables) missing)) h.0
    (by_name (bytes_eq name k.0) (variable_kind name known variables h.2))
  where
    by_name : (b : Bool) → IsOf (kind_in name known) (variable_in name variables)
        → IsOf (if b then Some k.1 else kind_in name known) (unwrap_or (if b then Some v.1 else lookup (λ x. bytes_eq name x) variables) missing)
    by_name true rest = h.1
    by_name false rest = rest

-- An operand without a fault has a kind.

is_there : (o : Option Kind) → is_none o ≡ false → is_some o ≡ true
is_there None e = absurd (cc)
is_there (Some k) e = refl

call_there : (given : Arguments) (function : Option Function) → is_none function ≡ false → has_bad_arguments stands.Operand given function ≡ false → is_some (gives_named function) ≡ true
call_there given None e b = absurd (cc)
call_there given (Some f) e b = is_there (row_of f).gives (middle_of_three _ (is_none (row_of f).gives) _ b)

call_there_condition : (given : Arguments) (function : Option Function) → is_none function ≡ false → has_bad_arguments stands.Condition given function ≡ false → is_some (gives_named function) ≡ true
call_there_condition given None e b = absurd (cc)
call_there_condition given (Some f) e b = is_there (row_of f).gives (middle_of_three _ (is_none (row_of f).gives) _ b)

kind_there : (known : Kinds) (e : Tree) → AreSound (nodes_of stands.Operand known e) → is_some (kind_of known e) ≡ true
kind_there known (trees.text t) h = refl
kind_there known (trees.whole n) h = refl
kind_there known (trees.boolean b) h = refl
kind_there known (field f) h = refl
kind_there known (variable x) h = is_there (kind_in x known) h.0.known_variable
kind_there known (unary sign e) h = refl
kind_there known (binary sign a b) h = refl
kind_there known (call f given) h =
    let own = (rest_sound (argument_nodes known given) _ h).0 in
    call_there given (function_named f) own.known_function own.well_called

condition_there : (known : Kinds) (e : Tree) → AreSound (nodes_of stands.Condition known e) → is_some (kind_of known e) ≡ true
condition_there known (trees.text t) h = refl
condition_there known (trees.whole n) h = refl
condition_there known (trees.boolean b) h = refl
condition_there known (field f) h = refl
condition_there known (variable x) h = is_there (kind_in x known) h.0.known_variable
condition_there known (unary sign e) h = refl
condition_there known (binary sign a b) h = refl
condition_there known (call f given) h =
    let own = (rest_sound (argument_nodes known given) _ h).0 in
    call_there_condition given (function_named f) own.known_function own.well_called

-- Arguments.

record IsTyped (s : Scope) (known : Kinds) (e : Tree) : Type 0 where
  there : is_some (kind_of known e) ≡ true
  kind : IsOf (kind_of known e) (meaning s e)

abbrev AreTyped : Scope → Kinds → Arguments → Type 0
AreTyped s known none = ⊤
AreTyped s known (argument name e more) = IsTyped s known e × AreTyped s known more

-- at a parameter with a default: no argument, or one of the kind
right_kind : (wanted : Kind) (o : Option Kind) (v : Value) → is_wrong wanted o ≡ false → is_some o ≡ true → IsOf o v → is_of_kind wanted v ≡ true
right_kind wanted None v e t h = absurd (cc)
right_kind kinds.Text (Some kinds.Text) v e t h = h
right_kind kinds.Whole (Some kinds.Whole) v e t h = h
right_kind kinds.Bool (Some kinds.Bool) v e t h = h
right_kind kinds.Any (Some kinds.Any) v e t h = h
right_kind kinds.Text (Some kinds.Whole) v e t h = absurd (cc)
right_kind kinds.Text (Some kinds.Bool) v e t h = absurd (cc)
right_kind kinds.Text (Some kinds.Any) v e t h = absurd (cc)
right_kind kinds.Whole (Some kinds.Text) v e t h = absurd (cc)
right_kind kinds.Whole (Some kinds.Bool) v e t h = absurd (cc)
right_kind kinds.Whole (Some kinds.Any) v e t h = absurd (cc)
right_kind kinds.Bool (Some kinds.Text) v e t h = absurd (cc)
right_kind kinds.Bool (Some kinds.Whole) v e t h = absurd (cc)
right_kind kinds.Bool (Some kinds.Any) v e t h = absurd (cc)
right_kind kinds.Any (Some kinds.Text) v e t h = absurd (cc)
right_kind kinds.Any (Some kinds.Whole) v e t h = absurd (cc)
right_kind kinds.Any (Some kinds.Bool) v e t h = absurd (cc)

at_place : (s : Scope) (known : Kinds) (given : Arguments) (wanted : Kind) (default : Value) (at : ℕ) → AreTyped s known given → is_of_kind wanted default ≡ true
    → is_wrong wanted (option_and_then (kind_of known) (slice_get (trees_in given) at)) ≡ false
    → is_of_kind wanted (unwrap_or (slice_get (meanings s given) at) default) ≡ true
unfolding meaning meanings
at_place s known none wanted default at h d e = d
at_place s known (argument name x more) wanted default zero h d e = right_kind wanted (kind_of known x) (meaning s x) e h.0.there h.0.kind
at_place s known (argument name x more) wanted default (suc at) h d e = at_place s known more wanted default at h.1 d e

at_some_place : (s : Scope) (known : Kinds) (given : Arguments) (wanted : Kind) (default : Value) (place : Option ℕ) → AreTyped s known given → is_of_kind wanted default ≡ true
    → is_wrong wanted (option_and_then (kind_of known) (option_and_then (λ at. slice_get (trees_in given) at) place)) ≡ false
    → is_of_kind wanted (unwrap_or (option_and_then (λ at. slice_get (meanings s given) at) place) default) ≡ true
at_some_place s known given wanted default None h d e = d
at_some_place s known given wanted default (Some at) h d e = at_place s known given wanted default at h d e

first_of_two : (a b : Bool) → (a || b) ≡ false → a ≡ false
first_of_two true b e = e
first_of_two false b e = refl

second_of_two : (a b : Bool) → (a || b) ≡ false → b ≡ false
second_of_two true b e = absurd (cc)
second_of_two false b e = e

to_string_default : (s : Scope) (known : Kinds) (given : Arguments) → AreTyped s known given → has_wrong_arguments known given (Some fns.ToString) ≡ false
    → is_of_kind kinds.Text (value_at 1 (values_for (row_of fns.ToString).parameters (names_in given) (meanings s given))) ≡ true
to_string_default s known given h e = at_some_place s known given kinds.Text (text []) (place_for (names_in given) (1, takes_or (codes "default") kinds.Text (text []))) h refl (first_of_two _ false e)

to_long_default : (s : Scope) (known : Kinds) (given : Arguments) → AreTyped s known given → has_wrong_arguments known given (Some fns.ToLong) ≡ false
    → is_of_kind kinds.Whole (value_at 1 (values_for (row_of fns.ToLong).parameters (names_in given) (meanings s given))) ≡ true
to_long_default s known given h e = at_some_place s known given kinds.Whole (whole (pos 0)) (place_for (names_in given) (1, takes_or (codes "default") kinds.Whole (whole (pos 0)))) h refl (first_of_two _ false e)

lookup_default : (s : Scope) (known : Kinds) (given : Arguments) → AreTyped s known given → has_wrong_arguments known given (Some fns.LookupValue) ≡ false
    → is_of_kind kinds.Text (value_at 2 (values_for (row_of fns.LookupValue).parameters (names_in given) (meanings s given))) ≡ true
lookup_default s known given h e = at_some_place s known given kinds.Text (text []) (place_for (names_in given) (2, takes_or (codes "default") kinds.Text (text []))) h refl (first_of_two _ false (second_of_two _ _ (second_of_two _ _ e)))

default_kind : (s : Scope) (known : Kinds) (given : Arguments) (f : Function) → AreTyped s known given → has_wrong_arguments known given (Some f) ≡ false
    → DefaultIsOf f (values_for (row_of f).parameters (names_in given) (meanings s given))
default_kind s known given fns.HasField h e = tt
default_kind s known given fns.IsNull h e = tt
default_kind s known given fns.IsNotNull h e = tt
default_kind s known given fns.IsString h e = tt
default_kind s known given fns.IsNumber h e = tt
default_kind s known given fns.ToString h e = to_string_default s known given h e
default_kind s known given fns.ToLong h e = to_long_default s known given h e
default_kind s known given fns.Contains h e = tt
default_kind s known given fns.StartsWith h e = tt
default_kind s known given fns.EndsWith h e = tt
default_kind s known given fns.RegexMatches h e = tt
default_kind s known given fns.RegexGroup h e = tt
default_kind s known given fns.Lowercase h e = tt
default_kind s known given fns.Uppercase h e = tt
default_kind s known given fns.Trim h e = tt
default_kind s known given fns.Concat h e = tt
default_kind s known given fns.Replace h e = tt
default_kind s known given fns.Substring h e = tt
default_kind s known given fns.SplitItem h e = tt
default_kind s known given fns.Length h e = tt
default_kind s known given fns.Abs h e = tt
default_kind s known given fns.LookupValue h e = lookup_default s known given h e
default_kind s known given fns.SyslogLevel h e = tt
default_kind s known given fns.SyslogFacility h e = tt
default_kind s known given fns.InStream h e = tt
default_kind s known given fns.SetField h e = tt
default_kind s known given fns.RemoveField h e = tt
default_kind s known given fns.RenameField h e = tt
default_kind s known given fns.RouteToStream h e = tt
default_kind s known given fns.RemoveFromStream h e = tt
default_kind s known given fns.DropMessage h e = tt

called_kind : (s : Scope) (known : Kinds) (given : Arguments) (function : Option Function) → AreTyped s known given → has_wrong_arguments known given function ≡ false
    → IsOf (gives_named function) (bounded (called s.sight function (names_in given) (meanings s given)))
called_kind s known given None h e = tt
called_kind s known given (Some f) h e = result_kind s.sight f _ (default_kind s known given f h e)

mutual
  unfolding meaning meanings

  pub typed : (s : Scope) (stand : Stand) (known : Kinds) (e : Tree) → AreSound (nodes_of stand known e) → AreOfKinds known s.variables → IsOf (kind_of known e) (meaning s e)
  typed s stand known (trees.text t) h v = bounded_text t
  typed s stand known (trees.whole n) h v = bounded_whole n
  typed s stand known (trees.boolean b) h v = refl
  typed s stand known (field f) h v = bounded_held (value_of f s.sight.fields)
  typed s stand known (variable x) h v = variable_kind x known s.variables v
  typed s stand known (unary prefixes.Minus e) h v = negated_kind (whole_in (meaning s e))
  typed s stand known (unary prefixes.Not e) h v = refl
  typed s stand known (binary infixes.Or a b) h v = refl
  typed s stand known (binary infixes.And a b) h v = refl
  typed s stand known (binary infixes.Equal a b) h v = refl
  typed s stand known (binary infixes.NotEqual a b) h v = refl
  typed s stand known (binary infixes.Less a b) h v = refl
  typed s stand known (binary infixes.AtMost a b) h v = refl
  typed s stand known (binary infixes.Greater a b) h v = refl
  typed s stand known (binary infixes.AtLeast a b) h v = refl
  typed s stand known (binary infixes.Plus a b) h v = of_pair_kind (λ x y. whole (x +ℤ y)) (both (meaning s a) (meaning s b)) (λ x y. bounded_whole (x +ℤ y))
  typed s stand known (binary infixes.Minus a b) h v = of_pair_kind (λ x y. whole (x -ℤ y)) (both (meaning s a) (meaning s b)) (λ x y. bounded_whole (x -ℤ y))
  typed s stand known (binary infixes.Times a b) h v = of_pair_kind (λ x y. whole (x *ℤ y)) (both (meaning s a) (meaning s b)) (λ x y. bounded_whole (x *ℤ y))
  typed s stand known (binary infixes.Divide a b) h v = of_pair_kind (unless_zero int_div) (both (meaning s a) (meaning s b)) (λ x y. unless_zero_kind int_div x y)
  typed s stand known (binary infixes.Remainder a b) h v = of_pair_kind (unless_zero int_rem) (both (meaning s a) (meaning s b)) (λ x y. unless_zero_kind int_rem x y)
  typed s stand known (call f given) h v =
      called_kind s known given (function_named f) (all_typed s known given (front_sound (argument_nodes known given) _ h) v)
      (first_of_two _ _ (rest_sound (argument_nodes known given) _ h).0.well_typed)

  all_typed : (s : Scope) (known : Kinds) (given : Arguments) → AreSound (argument_nodes known given) → AreOfKinds known s.variables → AreTyped s known given
  all_typed s known none h v = tt
  all_typed s known (argument name e more) h v = (
    record { there = kind_there known e (front_sound (nodes_of stands.Operand known e) _ h); kind = typed s stands.Operand known e (front_sound (nodes_of stands.Operand known e) _ h) v },
    all_typed s known more (rest_sound (nodes_of stands.Operand known e) _ h) v,
  )

-- The law.

pub has_its_kind : HasItsKind
has_its_kind known s e kind sound v is = subst (λ (o : Option Kind). IsOf o (meaning s e)) is (typed s stands.Operand known e (all_sound 0 (nodes_of stands.Operand known e) sound) v)

-- the outermost node of a condition
right_at : (n : Node) → IsSound n → is_wrong_condition n.stand (kind_of n.known n.tree) ≡ false
right_at n h = second_of_two (takes_wrong n.known n.tree) (is_wrong_condition n.stand (kind_of n.known n.tree)) h.well_typed

condition_is_right : (known : Kinds) (e : Tree) → AreSound (nodes_of stands.Condition known e) → is_wrong kinds.Bool (kind_of known e) ≡ false
condition_is_right known (trees.text t) h = right_at (node stands.Condition known (trees.text t)) h.0
condition_is_right known (trees.whole n) h = right_at (node stands.Condition known (trees.whole n)) h.0
condition_is_right known (trees.boolean b) h = right_at (node stands.Condition known (trees.boolean b)) h.0
condition_is_right known (field f) h = right_at (node stands.Condition known (field f)) h.0
condition_is_right known (variable x) h = right_at (node stands.Condition known (variable x)) h.0
condition_is_right known (unary sign e) h = right_at (node stands.Condition known (unary sign e)) (rest_sound (nodes_of stands.Operand known e) _ h).0
condition_is_right known (binary sign a b) h =
    right_at (node stands.Condition known (binary sign a b)) (rest_sound (nodes_of stands.Operand known b) _ (rest_sound (nodes_of stands.Operand known a) _ h)).0
condition_is_right known (call f given) h = right_at (node stands.Condition known (call f given)) (rest_sound (argument_nodes known given) _ h).0

pub condition_is_decided : ConditionIsDecided
condition_is_decided rule world fields streams e =
    let sound : AreSound (nodes_of stands.Condition [] rule.condition) = front_sound (nodes_of stands.Condition [] rule.condition) _ (rule_sound rule e) in
    right_kind kinds.Bool (kind_of [] rule.condition) _ (condition_is_right [] rule.condition sound) (condition_there [] rule.condition sound)
    (typed (at_condition world fields streams) stands.Condition [] rule.condition sound tt)

-- Behind some first actions.

step_variables : (world : Known) (known : Kinds) (step : Step) (c : Course) → AreSound (step_nodes known step) → AreOfKinds known c.variables → AreOfKinds (known_behind known step) (stepped world c step).variables
step_variables world known (assign x e) c h v = (refl, assigned_kind (kind_of known e) _ (kind_there known e h) (typed _ stands.Operand known e h v), v)
  where
    assigned_kind : (o : Option Kind) (value : Value) → is_some o ≡ true → IsOf o value → is_of_kind (unwrap_or o kinds.Any) value ≡ true
    assigned_kind None value there is = absurd (cc)
    assigned_kind (Some k) value there is = is
step_variables world known (perform f given) c h v = v

steps_variables : (world : Known) (known : Kinds) (before after : List Step) (c : Course) → AreSound (steps_nodes known (before ++ after)) → AreOfKinds known c.variables
    → (fold (stepped_or_dropped world) c before).message.dropped ≡ false → AreOfKinds (fold known_behind known before) (fold (stepped_or_dropped world) c before).variables
steps_variables world known [] after c h v e = v
steps_variables world known (step ∷ before) after c h v e =
    steps_variables world (known_behind known step) before after (stepped_or_dropped world c step) (rest_sound (step_nodes known step) _ h) (by_dropped c.message.dropped refl) e
  where
    by_dropped : (b : Bool) → c.message.dropped ≡ b → AreOfKinds (known_behind known step) (if b then c else stepped world c step).variables
    by_dropped true is = absurd (let stays : fold (stepped_or_dropped world) c (step ∷ before) ≡ c = dropped_stays world (step ∷ before) c is in false≢true (sym e ∙ ap (λ (d : Course). d.message.dropped) stays ∙ is))
    by_dropped false is = step_variables world known step c (front_sound (step_nodes known step) _ h) v

pub variables_have_their_kinds : VariablesHaveTheirKinds
variables_have_their_kinds rule world m before after e is alive =
    steps_variables world [] before after (record { message = m; variables = [] })
    (subst (λ (steps : List Step). AreSound (steps_nodes [] steps)) is (rest_sound (nodes_of stands.Condition [] rule.condition) _ (rule_sound rule e))) tt alive
