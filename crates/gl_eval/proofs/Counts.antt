-- How many patterns a call takes, and the values of its parameters one after the other.
use Rattle.std.proofs.Common.{◌≡◌, ℕ, zero, suc, ◌+◌, ◌<◌, ◌^◌, List, [], ◌∷◌, ◌++◌, Bool, true, false, length, map, take, get_or, refl, sym, ap, ◌∙◌, subst, arith, add-one}
use Rattle.std.specs.Prelude.{Option, Some, None, if◌then◌else◌}
use Rattle.std.specs.List.{enumerate_from}
use Rattle.std.proofs.lemmas.List.{length-append}
use Rattle.gl_rulelang.specs.Tree.{Arguments, call_tree}
use Rattle.gl_check.specs.declared.function.Function.{Function}
use Rattle.gl_check.specs.declared.parameter.Parameter.{Parameter}
use Rattle.gl_check.specs.Values.{Value}
use Rattle.gl_check.specs.Functions.{ParameterRow, asked, function_named}
use Rattle.gl_check.specs.Checking.{patterns_of, patterns_in, patterns_for}
use Rattle.gl_eval.specs.Patterns.{HasPatterns, HasStrings, asks_named, taken_by}
use Rattle.gl_eval.proofs.Taking.{taken_count}

one_pattern : (given : Arguments) (o : Option Function) (asks : Bool) → HasStrings given o → asks ≡ asks_named o → asks ≡ true → length (patterns_for given o) ≡ 1
one_pattern given None asks h e is = absurd (cc)
one_pattern given (Some f) asks h e is = taken_count given f h ∙ by_asks (asks_named (Some f)) (sym e ∙ is)
  where
    by_asks : (b : Bool) → b ≡ true → ◌≡◌ {A = ℕ} (if b then 1 else 0) 1
    by_asks true is = refl
    by_asks false is = absurd (cc)

no_pattern : (given : Arguments) (o : Option Function) (asks : Bool) → HasStrings given o → asks ≡ asks_named o → asks ≡ false → length (patterns_for given o) ≡ 0
no_pattern given None asks h e is = refl
no_pattern given (Some f) asks h e is = taken_count given f h ∙ by_asks (asks_named (Some f)) (sym e ∙ is)
  where
    by_asks : (b : Bool) → b ≡ false → ◌≡◌ {A = ℕ} (if b then 1 else 0) 0
    by_asks true is = absurd (cc)
    by_asks false is = refl

pub past_one : (c : List ℕ × Arguments) (asks : Bool) (behind at : ℕ) → HasPatterns (call_tree c) → asks ≡ asks_named (function_named c.0) → asks ≡ true
    → behind ≡ at + length (patterns_in c.1) → behind + 1 ≡ at + length (patterns_of (call_tree c))
past_one c asks behind at h e is b =
    omega (arith, b, length-append (patterns_in c.1) (patterns_for c.1 (function_named c.0)), one_pattern c.1 (function_named c.0) asks h.1 e is)

pub past_none : (c : List ℕ × Arguments) (asks : Bool) (behind at : ℕ) → HasPatterns (call_tree c) → asks ≡ asks_named (function_named c.0) → asks ≡ false
    → behind ≡ at + length (patterns_in c.1) → behind ≡ at + length (patterns_of (call_tree c))
past_none c asks behind at h e is b =
    omega (arith, b, length-append (patterns_in c.1) (patterns_for c.1 (function_named c.0)), no_pattern c.1 (function_named c.0) asks h.1 e is)

-- one parameter more
pub values_more : (f : ℕ × ParameterRow → Value) (n : ℕ) (xs : List Parameter) (i : ℕ) (d : Parameter) → i < length xs
    → map f (enumerate_from n (map asked (take (suc i) xs))) ≡ map f (enumerate_from n (map asked (take i xs))) ++ f (n + i, asked (get_or xs i d)) ∷ []
values_more f n [] i d lt = absurd (omega arith)
values_more f n (x ∷ xs) zero d lt = let e : n ≡ n + 0 = omega arith in ap (λ (k : ℕ). f (k, asked x) ∷ []) e
values_more f n (x ∷ xs) (suc i) d lt =
    let e : (n + 1) + i ≡ n + suc i = omega arith in
    let front = map f (enumerate_from (n + 1) (map asked (take i xs))) in
    ap (λ (l : List Value). f (n, asked x) ∷ l) (values_more f (n + 1) xs i d (omega arith) ∙ ap (λ (k : ℕ). front ++ f (k, asked (get_or xs i d)) ∷ []) e)
