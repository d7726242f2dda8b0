-- The values of parameters whose arguments stand in their places, and a stack under them.
use Rattle.std.proofs.Common.{◌≡◌, ℕ, zero, suc, ◌+◌, ◌-◌, ◌<◌, ◌≤◌, Bool, true, false, List, [], ◌∷◌, ◌++◌, length, map, take, drop, refl, sym, ap, ◌∙◌, subst, arith, append_assoc, drop-drop}
use Rattle.std.specs.Prelude.{Option, Some, None, nat_lt, option_and_then, unwrap_or, if◌then◌else◌}
use Rattle.std.specs.List.{slice_get, enumerate_from, position_from}
use Rattle.std.proofs.lemmas.List.{append-nil, length-drop, take-append-drop, take_all, take_at, drop_at}
use Rattle.gl_rulelang.specs.Tree.{Arguments, args_view, row}
use Rattle.gl_check.specs.declared.function.Function.{Function}
use Rattle.gl_check.specs.declared.parameter.Parameter.{Parameter}
use Rattle.gl_check.specs.Values.{Value}
use Rattle.gl_check.specs.Functions.{ParameterRow, asked, row_of}
use Rattle.gl_check.specs.Arguments.{Names, names_view, are_positional, is_called}
use Rattle.gl_eval.specs.Meaning.{Scope, meanings, value_for, values_for}
use Rattle.gl_eval.specs.Fitting.{default_for, IsInPlace}
use Rattle.gl_eval.proofs.Rows.{Given}
use Rattle.gl_eval.proofs.Called.{AreFor, values_are_for}

-- one default more, and none
pub defaults_more : (all vs : List Value) (v : Value) (x : Parameter) (xs rest : List Parameter) → xs ≡ x ∷ rest → v ≡ default_for (asked x)
    → vs ++ map default_for (map asked xs) ≡ all → (vs ++ v ∷ []) ++ map default_for (map asked rest) ≡ all
defaults_more all vs v x xs rest e is h =
    append_assoc vs (v ∷ []) (map default_for (map asked rest))
    ∙ ap (λ (y : Value). vs ++ y ∷ map default_for (map asked rest)) is
    ∙ subst (λ (ys : List Parameter). vs ++ map default_for (map asked ys) ≡ all) e h

pub defaults_end : (all vs : List Value) (xs : List Parameter) → xs ≡ [] → vs ++ map default_for (map asked xs) ≡ all → vs ≡ all
defaults_end all vs xs e h = sym (append-nil vs) ∙ subst (λ (ys : List Parameter). vs ++ map default_for (map asked ys) ≡ all) e h

-- what stands from a place on
get_first : (given : List Value) (n : ℕ) (v : Value) (vs : List Value) → drop n given ≡ v ∷ vs → slice_get given n ≡ Some v
get_first [] zero v vs e = absurd (cc)
get_first [] (suc n) v vs e = absurd (cc)
get_first (x ∷ xs) zero v vs e = cc
get_first (x ∷ xs) (suc n) v vs e = get_first xs n v vs e

get_none : (given : List Value) (n : ℕ) → drop n given ≡ [] → slice_get given n ≡ None
get_none [] n e = refl
get_none (x ∷ xs) zero e = absurd (cc)
get_none (x ∷ xs) (suc n) e = get_none xs n e

one_behind : (given : List Value) (n : ℕ) (vs : List Value) → drop 1 (drop n given) ≡ vs → drop (n + 1) given ≡ vs
one_behind given n vs e = sym (drop-drop 1 n given) ∙ e

-- the value of a parameter by its place
in_its_place : (given : List Value) (n : ℕ) (name : List ℕ) (names : Names) (d v : Value) (b within : Bool) → b ≡ true → within ≡ true → slice_get given n ≡ Some v
    → unwrap_or (option_and_then (λ at. slice_get given at) (if b then (if within then Some n else None) else position_from (is_called name) 0 names)) d ≡ v
in_its_place given n name names d v true true e g is = ap (λ (o : Option Value). unwrap_or o d) is
in_its_place given n name names d v true false e g is = absurd (cc)
in_its_place given n name names d v false within e g is = absurd (cc)

by_default : (given : List Value) (n : ℕ) (name : List ℕ) (names : Names) (d : Value) (b within : Bool) → b ≡ true → slice_get given n ≡ None
    → unwrap_or (option_and_then (λ at. slice_get given at) (if b then (if within then Some n else None) else position_from (is_called name) 0 names)) d ≡ d
by_default given n name names d true true e is = ap (λ (o : Option Value). unwrap_or o d) is
by_default given n name names d true false e is = refl
by_default given n name names d false within e is = absurd (cc)

is_below : (m n : ℕ) → m < n → nat_lt m n ≡ true
is_below m n h = grind (arith, h)

-- the values of the parameters from the n-th on, of what is given from the n-th on
in_places_from : (names : Names) (given : List Value) (n : ℕ) (ps : List Parameter) (rest : List Value) → are_positional names ≡ true → length given ≤ length names
    → drop n given ≡ rest → length rest ≤ length ps → map (value_for names given) (enumerate_from n (map asked ps)) ≡ rest ++ map default_for (map asked (drop (length rest) ps))
in_places_from names given n [] [] pos few e le = refl
in_places_from names given n [] (v ∷ vs) pos few e le = absurd (omega arith)
in_places_from names given n (p ∷ ps) [] pos few e le =
    let more : map (value_for names given) (enumerate_from (n + 1) (map asked ps)) ≡ map default_for (map asked ps) = in_places_from names given (n + 1) ps [] pos few (one_behind given n [] (ap (drop 1) e)) (omega arith) in
    let here : value_for names given (n, asked p) ≡ default_for (asked p) = by_default given n (asked p).name names (default_for (asked p)) (are_positional names) (nat_lt n (length names)) pos (get_none given n e) in
    ap (λ (v : Value). v ∷ map (value_for names given) (enumerate_from (n + 1) (map asked ps))) here ∙ ap (λ (l : List Value). default_for (asked p) ∷ l) more
in_places_from names given n (p ∷ ps) (v ∷ vs) pos few e le =
    let more : map (value_for names given) (enumerate_from (n + 1) (map asked ps)) ≡ vs ++ map default_for (map asked (drop (length vs) ps)) =
    in_places_from names given (n + 1) ps vs pos few (one_behind given n vs (ap (drop 1) e)) (omega arith) in
    let left : length given - n ≡ suc (length vs) = sym (length-drop n given) ∙ ap length e in
    let within : nat_lt n (length names) ≡ true = is_below n (length names) (omega (arith, left, few)) in
    let here : value_for names given (n, asked p) ≡ v = in_its_place given n (asked p).name names (default_for (asked p)) v (are_positional names) (nat_lt n (length names)) pos within (get_first given n v vs e) in
    ap (λ (w : Value). w ∷ map (value_for names given) (enumerate_from (n + 1) (map asked ps))) here ∙ ap (λ (l : List Value). v ∷ l) more

-- the stack with the defaults behind the values
pub fits_in_place : (old new : List Value) (from : ℕ) (ps rest : List Parameter) (names : Names) → from ≤ length old → IsInPlace (length old - from) (length ps) names
    → rest ≡ drop (length old - from) ps → new ≡ old ++ map default_for (map asked rest) → new ≡ take from old ++ values_for (map asked ps) names (drop from old)
fits_in_place old new from ps rest names le h left is =
    let given = drop from old in
    let count : length (drop from old) ≡ length old - from = length-drop from old in
    let end = map default_for (map asked (drop (length old - from) ps)) in
    is
    ∙ ap (λ (xs : List Parameter). old ++ map default_for (map asked xs)) left
    ∙ ap (λ (vs : List Value). vs ++ end) (sym (take-append-drop from old))
    ∙ append_assoc (take from old) given end
    ∙ ap (λ (k : ℕ). take from old ++ (given ++ map default_for (map asked (drop k ps)))) (sym count)
    ∙ ap (λ (vs : List Value). take from old ++ vs) (sym (in_places_from names given 0 ps given h.positional (omega (arith, count, h.named)) refl (omega (arith, count, h.fits))))

-- a stack on which values were put, cut back, and what was put on it
pub cut_back : (old more stack : List Value) (from : ℕ) → from ≡ length old → stack ≡ old ++ more → take from stack ≡ old
cut_back old more stack from e is = ap (take from) is ∙ take_at old more from (sym e)

pub put_on : (old more stack : List Value) (from : ℕ) → from ≡ length old → stack ≡ old ++ more → drop from stack ≡ more
put_on old more stack from e is = ap (drop from) is ∙ drop_at old more from (sym e)

-- the slice of a stack from a place on
pub lent_rest : (stack lent : List Value) (from : ℕ) → lent ≡ stack → take (length lent - from) (drop from lent) ≡ drop from stack
lent_rest stack lent from e = take_all (length lent - from) (drop from lent) (omega (arith, length-drop from lent)) ∙ ap (drop from) e

-- the stack behind `fit` is what it was before the arguments, and the values of the parameters
pub fitted : (old given pushed fit : List Value) (from : ℕ) (ps : List ParameterRow) (names : Names) → from ≡ length old → pushed ≡ old ++ given
    → fit ≡ take from pushed ++ values_for ps names (drop from pushed) → fit ≡ old ++ values_for ps names given
fitted old given pushed fit from ps names e put is =
    is
    ∙ ap (λ (vs : List Value). vs ++ values_for ps names (drop from pushed)) (cut_back old given pushed from e put)
    ∙ ap (λ (vs : List Value). old ++ values_for ps names vs) (put_on old given pushed from e put)

-- what a function gets of the stack
pub fitted_are_for : (s : Scope) (g : Arguments) (f : Function) (first second : Given) (old pushed fit lent : List Value) (from : ℕ) (ps : List ParameterRow) → row (args_view first) ≡ g → row (args_view second) ≡ g
    → ps ≡ (row_of f).parameters → from ≡ length old → pushed ≡ old ++ meanings s (row (args_view first)) → fit ≡ take from pushed ++ values_for ps (names_view second) (drop from pushed) → lent ≡ drop from fit
    → AreFor s g f lent
fitted_are_for s g f first second old pushed fit lent from ps one two asks e put is through =
    let given = meanings s (row (args_view first)) in
    let all : fit ≡ old ++ values_for ps (names_view second) (meanings s (row (args_view first))) = fitted old given pushed fit from ps (names_view second) e put is in
    values_are_for s g f second given lent ps two asks (ap (λ (h : Arguments). meanings s h) (one ∙ sym two)) (through ∙ put_on old (values_for ps (names_view second) given) fit from e all)

-- and the stack cut back behind it
pub fitted_back : (old given pushed fit : List Value) (from : ℕ) (ps : List ParameterRow) (names : Names) → from ≡ length old → pushed ≡ old ++ given
    → fit ≡ take from pushed ++ values_for ps names (drop from pushed) → take from fit ≡ old
fitted_back old given pushed fit from ps names e put is = cut_back old (values_for ps names given) fit from e (fitted old given pushed fit from ps names e put is)
