-- The arguments of a call one after the other: what is left of them, their values and their patterns.
use Rattle.std.proofs.Common.{◌≡◌, ℕ, ◌+◌, ◌<◌, ◌≤◌, List, [], ◌∷◌, ◌++◌, Option, length, drop, refl, sym, ap, ◌∙◌, subst, arith, append_assoc}
use Rattle.std.proofs.lemmas.List.{length-append, append-nil}
use Rattle.gl_rulelang.specs.declared.rule.Expr.{Expr}
use Rattle.gl_rulelang.specs.Tree.{tree_of, args_view, row}
use Rattle.gl_check.specs.Values.{Value}
use Rattle.gl_check.specs.Checking.{patterns_of, patterns_in}
use Rattle.gl_eval.specs.Meaning.{Scope, meaning, meanings}
use Rattle.gl_eval.specs.Patterns.{StandAt, HasPatterns, HavePatterns}
use Rattle.gl_eval.proofs.Standing.{first_stand, second_stand}

abbrev pub Given : Type 0
Given = List (Option (List ℕ) × Expr)

pub values_more : (s : Scope) (all vs : List Value) (v : Value) (x : Option (List ℕ) × Expr) (xs rest : Given) → xs ≡ x ∷ rest → v ≡ meaning s (tree_of x.1)
    → vs ++ meanings s (row (args_view xs)) ≡ all → (vs ++ v ∷ []) ++ meanings s (row (args_view rest)) ≡ all
unfolding meaning meanings
values_more s all vs v x xs rest e is h =
    append_assoc vs (v ∷ []) (meanings s (row (args_view rest)))
    ∙ ap (λ (y : Value). vs ++ y ∷ meanings s (row (args_view rest))) is
    ∙ subst (λ (ys : Given). vs ++ meanings s (row (args_view ys)) ≡ all) e h

pub values_end : (s : Scope) (all vs : List Value) (xs : Given) → xs ≡ [] → vs ++ meanings s (row (args_view xs)) ≡ all → vs ≡ all
unfolding meaning meanings
values_end s all vs xs e h = sym (append-nil vs) ∙ subst (λ (ys : Given). vs ++ meanings s (row (args_view ys)) ≡ all) e h

pub lawful_first : (x : Option (List ℕ) × Expr) (xs rest : Given) → xs ≡ x ∷ rest → HavePatterns (row (args_view xs)) → HasPatterns (tree_of x.1)
lawful_first x xs rest e h = (subst (λ (ys : Given). HavePatterns (row (args_view ys))) e h).0

pub lawful_more : (x : Option (List ℕ) × Expr) (xs rest : Given) → xs ≡ x ∷ rest → HavePatterns (row (args_view xs)) → HavePatterns (row (args_view rest))
lawful_more x xs rest e h = (subst (λ (ys : Given). HavePatterns (row (args_view ys))) e h).1

pub stands_first : (at : ℕ) (x : Option (List ℕ) × Expr) (xs rest : Given) (ps : List (List ℕ)) → xs ≡ x ∷ rest → StandAt at (patterns_in (row (args_view xs))) ps → StandAt at (patterns_of (tree_of x.1)) ps
stands_first at x xs rest ps e h =
    first_stand at (patterns_of (tree_of x.1)) (patterns_in (row (args_view rest))) ps (subst (λ (ys : Given). StandAt at (patterns_in (row (args_view ys))) ps) e h)

pub stands_more : (at next : ℕ) (x : Option (List ℕ) × Expr) (xs rest : Given) (ps : List (List ℕ)) → xs ≡ x ∷ rest → StandAt at (patterns_in (row (args_view xs))) ps
    → next ≡ at + length (patterns_of (tree_of x.1)) → StandAt next (patterns_in (row (args_view rest))) ps
stands_more at next x xs rest ps e h is =
    subst (λ (n : ℕ). StandAt n (patterns_in (row (args_view rest))) ps) (sym is)
    (second_stand at (patterns_of (tree_of x.1)) (patterns_in (row (args_view rest))) ps (subst (λ (ys : Given). StandAt at (patterns_in (row (args_view ys))) ps) e h))

-- how many patterns are left
pub count_more : (x : Option (List ℕ) × Expr) (xs rest : Given) → xs ≡ x ∷ rest
    → length (patterns_in (row (args_view xs))) ≡ length (patterns_of (tree_of x.1)) + length (patterns_in (row (args_view rest)))
count_more x xs rest e =
    ap (λ (ys : Given). length (patterns_in (row (args_view ys)))) e ∙ length-append (patterns_of (tree_of x.1)) (patterns_in (row (args_view rest)))

pub count_end : (xs : Given) → xs ≡ [] → length (patterns_in (row (args_view xs))) ≡ 0
count_end xs e = ap (λ (ys : Given). length (patterns_in (row (args_view ys)))) e
