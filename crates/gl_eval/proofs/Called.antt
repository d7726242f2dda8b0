-- What a call means, of the values of its arguments.
use Rattle.std.proofs.Common.{◌≡◌, ℕ, ℤ, Bool, ◌+◌, List, [], ◌∷◌, ◌++◌, length, map, refl, sym, ap, ◌∙◌, subst, arith}
use Rattle.std.specs.Prelude.{Option, Some, None}
use Rattle.std.proofs.lemmas.List.{length-append, append-nil}
use Rattle.gl_rulelang.specs.declared.rule.Unary.{Unary}
use Rattle.gl_rulelang.specs.declared.rule.Binary.{Binary}
use Rattle.gl_rulelang.specs.Tree.{Tree, Arguments, unary, binary, call_tree, args_view, row}
use Rattle.gl_rulelang.specs.Tree as trees
use Rattle.gl_check.specs.declared.function.Function.{Function}
use Rattle.gl_check.specs.declared.parameter.Parameter.{Parameter}
use Rattle.gl_check.specs.Values.{Value, text, whole, truth, missing, bounded}
use Rattle.gl_fields.specs.declared.value.Value.{Value as Held}
use Rattle.gl_fields.specs.Fields.{value_of}
use Rattle.gl_functions.specs.Contents.{held_or_missing}
use Rattle.gl_check.specs.Functions.{ParameterRow, asked, row_of, function_named}
use Rattle.gl_check.specs.Arguments.{Names, names_in, names_view}
use Rattle.gl_check.specs.Checking.{patterns_of, patterns_in, patterns_for}
use Rattle.gl_functions.specs.Operations.{prefixed, infixed}
use Rattle.gl_functions.specs.Calls.{result_of}
use Rattle.gl_eval.specs.Meaning.{Scope, meaning, meanings, values_for, called, variable_in}
use Rattle.gl_eval.specs.Patterns.{StandAt, HasPatterns, HasStrings, TakesNext, taken_by}
use Rattle.gl_eval.proofs.Standing.{first_stand, second_stand}
use Rattle.gl_eval.proofs.Taking.{taken_count, takes_next}
use Rattle.gl_eval.proofs.Rows.{Given}

pub names_same : (given : Given) → names_view given ≡ names_in (row (args_view given))
names_same [] = refl
names_same (a ∷ given) = ap (λ (names : Names). a.0 ∷ names) (names_same given)

-- the values that a function of this name gets
abbrev pub AreFor : Scope → Arguments → Function → List Value → Type 0
AreFor s g f values = values ≡ values_for (row_of f).parameters (names_in g) (meanings s g)

pub values_are_for : (s : Scope) (g : Arguments) (f : Function) (arguments : Given) (given values : List Value) (ps : List ParameterRow) → row (args_view arguments) ≡ g → ps ≡ (row_of f).parameters
    → given ≡ meanings s (row (args_view arguments)) → values ≡ values_for ps (names_view arguments) given → AreFor s g f values
values_are_for s g f arguments given values ps same asks are is =
    is
    ∙ ap (λ (qs : List ParameterRow). values_for qs (names_view arguments) given) asks
    ∙ ap (λ (names : Names). values_for (row_of f).parameters names given) (names_same arguments)
    ∙ ap (λ (vs : List Value). values_for (row_of f).parameters (names_in (row (args_view arguments))) vs) are
    ∙ ap (λ (h : Arguments). values_for (row_of f).parameters (names_in h) (meanings s h)) same

pub called_means : (s : Scope) (c : List ℕ × Arguments) (f : Function) (values : List Value) (v : Value) → function_named c.0 ≡ Some f → AreFor s c.1 f values → v ≡ bounded (result_of s.sight f values)
    → v ≡ meaning s (call_tree c)
unfolding meaning meanings
called_means s c f values v named are is =
    is ∙ ap (λ (vs : List Value). bounded (result_of s.sight f vs)) are ∙ sym (ap (λ (o : Option Function). bounded (called s.sight o (names_in c.1) (meanings s c.1))) named)

pub called_missing : (s : Scope) (c : List ℕ × Arguments) (v : Value) → function_named c.0 ≡ None → v ≡ missing → v ≡ meaning s (call_tree c)
unfolding meaning meanings
called_missing s c v named is = is ∙ sym (ap (λ (o : Option Function). bounded (called s.sight o (names_in c.1) (meanings s c.1))) named)

pub inside_stand : (c : List ℕ × Arguments) (at : ℕ) (ps : List (List ℕ)) → StandAt at (patterns_of (call_tree c)) ps → StandAt at (patterns_in c.1) ps
inside_stand c at ps h = first_stand at (patterns_in c.1) (patterns_for c.1 (function_named c.0)) ps h

pub called_takes : (s : Scope) (c : List ℕ × Arguments) (f : Function) (values : List Value) (ps : List (List ℕ)) (at next : ℕ) → function_named c.0 ≡ Some f → HasPatterns (call_tree c) → AreFor s c.1 f values
    → StandAt at (patterns_of (call_tree c)) ps → next ≡ at + length (patterns_in c.1) → TakesNext f values ps next
called_takes s c f values ps at next named h are st is =
    let own : StandAt (at + length (patterns_in c.1)) (patterns_for c.1 (function_named c.0)) ps = second_stand at (patterns_in c.1) (patterns_for c.1 (function_named c.0)) ps st in
    let here : StandAt next (patterns_for c.1 (Some f)) ps = subst (λ (n : ℕ). StandAt n (patterns_for c.1 (Some f)) ps) (sym is) (subst (λ (o : Option Function). StandAt (at + length (patterns_in c.1)) (patterns_for c.1 o) ps) named own) in
    subst (λ (vs : List Value). TakesNext f vs ps next) (sym are) (takes_next s c.1 f ps next (subst (λ (o : Option Function). HasStrings c.1 o) named h.1) here)

pub called_next : (c : List ℕ × Arguments) (f : Function) (at next end : ℕ) → function_named c.0 ≡ Some f → HasPatterns (call_tree c) → next ≡ at + length (patterns_in c.1) → end ≡ next + taken_by f
    → end ≡ at + length (patterns_of (call_tree c))
called_next c f at next end named h is e =
    let own : length (patterns_for c.1 (function_named c.0)) ≡ taken_by f = ap (λ (o : Option Function). length (patterns_for c.1 o)) named ∙ taken_count c.1 f (subst (λ (o : Option Function). HasStrings c.1 o) named h.1) in
    omega (arith, is, e, own, length-append (patterns_in c.1) (patterns_for c.1 (function_named c.0)))

pub missing_next : (c : List ℕ × Arguments) (at next : ℕ) → function_named c.0 ≡ None → next ≡ at + length (patterns_in c.1) → next ≡ at + length (patterns_of (call_tree c))
missing_next c at next named is =
    let own : length (patterns_for c.1 (function_named c.0)) ≡ 0 = ap (λ (o : Option Function). length (patterns_for c.1 o)) named in
    omega (arith, is, own, length-append (patterns_in c.1) (patterns_for c.1 (function_named c.0)))

-- a second operand stands behind the first
pub behind_first : (at next : ℕ) (xs ys ps qs : List (List ℕ)) → next ≡ at + length xs → qs ≡ ps → StandAt at (xs ++ ys) ps → StandAt next ys qs
behind_first at next xs ys ps qs is same h =
    subst (λ (rs : List (List ℕ)). StandAt next ys rs) (sym same) (subst (λ (n : ℕ). StandAt n ys ps) (sym is) (second_stand at xs ys ps h))

pub unary_means : (s : Scope) (sign : Unary) (e operand : Tree) (v w : Value) → e ≡ unary sign operand → v ≡ meaning s operand → w ≡ bounded (prefixed sign v) → w ≡ meaning s e
unfolding meaning meanings
unary_means s sign e operand v w is h k = k ∙ ap (λ (x : Value). bounded (prefixed sign x)) h ∙ sym (ap (meaning s) is)

pub binary_means : (s : Scope) (sign : Binary) (e first second : Tree) (v w x : Value) → e ≡ binary sign first second → v ≡ meaning s first → w ≡ meaning s second → x ≡ bounded (infixed sign v w) → x ≡ meaning s e
unfolding meaning meanings
binary_means s sign e first second v w x is h g k =
    k ∙ ap (λ (y : Value). bounded (infixed sign y w)) h ∙ ap (λ (y : Value). bounded (infixed sign (meaning s first) y)) g ∙ sym (ap (meaning s) is)

pub binary_next : (sign : Binary) (e first second : Tree) (at next end : ℕ) → e ≡ binary sign first second → next ≡ at + length (patterns_of first) → end ≡ next + length (patterns_of second) → end ≡ at + length (patterns_of e)
binary_next sign e first second at next end is h g =
    omega (arith, h, g, ap (λ (x : Tree). length (patterns_of x)) is, length-append (patterns_of first) (patterns_of second))

pub binary_first : (sign : Binary) (e first second : Tree) (at : ℕ) (ps : List (List ℕ)) → e ≡ binary sign first second → StandAt at (patterns_of e) ps → StandAt at (patterns_of first) ps
binary_first sign e first second at ps is h = first_stand at (patterns_of first) (patterns_of second) ps (subst (λ (x : Tree). StandAt at (patterns_of x) ps) is h)

pub binary_second : (sign : Binary) (e first second : Tree) (at next : ℕ) (ps qs : List (List ℕ)) → e ≡ binary sign first second → StandAt at (patterns_of e) ps → next ≡ at + length (patterns_of first) → qs ≡ ps → StandAt next (patterns_of second) qs
binary_second sign e first second at next ps qs is h g same = behind_first at next (patterns_of first) (patterns_of second) ps qs g same (subst (λ (x : Tree). StandAt at (patterns_of x) ps) is h)

-- Expressions that hold no other.

pub text_means : (s : Scope) (e : Tree) (t u : List ℕ) (v : Value) → e ≡ trees.text t → u ≡ t → v ≡ bounded (text u) → v ≡ meaning s e
unfolding meaning meanings
text_means s e t u v is same h = h ∙ ap (λ (x : List ℕ). bounded (text x)) same ∙ sym (ap (meaning s) is)

pub whole_means : (s : Scope) (e : Tree) (n : ℤ) (v : Value) → e ≡ trees.whole n → v ≡ bounded (whole n) → v ≡ meaning s e
unfolding meaning meanings
whole_means s e n v is h = h ∙ sym (ap (meaning s) is)

pub truth_means : (s : Scope) (e : Tree) (b : Bool) (v : Value) → e ≡ trees.boolean b → v ≡ truth b → v ≡ meaning s e
unfolding meaning meanings
truth_means s e b v is h = h ∙ sym (ap (meaning s) is)

pub field_means : (s : Scope) (e : Tree) (name u : List ℕ) (o : Option Held) (v : Value) → e ≡ trees.field name → u ≡ name → o ≡ value_of u s.sight.fields → v ≡ bounded (held_or_missing o) → v ≡ meaning s e
unfolding meaning meanings
field_means s e name u o v is same found h =
    h ∙ ap (λ (x : Option Held). bounded (held_or_missing x)) found ∙ ap (λ (x : List ℕ). bounded (held_or_missing (value_of x s.sight.fields))) same ∙ sym (ap (meaning s) is)

pub variable_means : (s : Scope) (e : Tree) (name u : List ℕ) (v : Value) → e ≡ trees.variable name → u ≡ name → v ≡ variable_in u s.variables → v ≡ meaning s e
unfolding meaning meanings
variable_means s e name u v is same h = h ∙ ap (λ (x : List ℕ). variable_in x s.variables) same ∙ sym (ap (meaning s) is)
