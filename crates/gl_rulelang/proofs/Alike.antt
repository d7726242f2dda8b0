-- Trees that are of different kinds differ, and trees of one kind are equal where their parts are.
use Rattle.std.proofs.Common.{◌≡◌, ◌==◌, Bool, true, false, List, [], ◌∷◌, length, ℕ, suc, Option, Some, None, IsTrue, refl, sym, ap, ap₂, ◌∙◌, arith}
use Rattle.std.proofs.lemmas.Bool.Decides.{nat_tests}
use Rattle.gl_rulelang.specs.declared.rule.Unary.{Unary}
use Rattle.gl_rulelang.specs.declared.rule.Binary.{Binary}
use Rattle.gl_rulelang.specs.declared.rule.Expr.{Expr}
use Rattle.gl_rulelang.specs.Tree.{Tree, text, whole, boolean, field, variable, unary, binary, call, Arguments, none, argument, row, args_view, unary_parts, binary_parts, call_parts}

pub no_unary : (sign : Unary) (e t u : Tree) → u ≡ unary sign e → unary_parts t ≡ None → u ≡ t → ⊥
no_unary sign e t u is gone same = nothing (sym (ap unary_parts (sym is ∙ same))) gone
  where
    nothing : unary_parts t ≡ Some (sign, e) → unary_parts t ≡ None → ⊥
    nothing h i = cc (sym h ∙ i)

pub no_binary : (sign : Binary) (a b t u : Tree) → u ≡ binary sign a b → binary_parts t ≡ None → u ≡ t → ⊥
no_binary sign a b t u is gone same = nothing (sym (ap binary_parts (sym is ∙ same))) gone
  where
    nothing : binary_parts t ≡ Some (sign, a, b) → binary_parts t ≡ None → ⊥
    nothing h i = cc (sym h ∙ i)

pub no_call : (name : List ℕ) (given : Arguments) (t u : Tree) → u ≡ call name given → call_parts t ≡ None → u ≡ t → ⊥
no_call name given t u is gone same = nothing (sym (ap call_parts (sym is ∙ same))) gone
  where
    nothing : call_parts t ≡ Some (name, given) → call_parts t ≡ None → ⊥
    nothing h i = cc (sym h ∙ i)

-- a pair is what its parts are
pub pair_is : (p : List ℕ × Arguments) (name : List ℕ) (given : Arguments) → name ≡ p.0 → given ≡ p.1 → ◌≡◌ {A = List ℕ × Arguments} (name, given) p
pair_is p name given first second = ap₂ (λ (n : List ℕ) (g : Arguments). (n, g)) first second

pub calls_same : (p q : List ℕ × Arguments) (b : Bool) → p.0 ≡ q.0 → (IsTrue b → p.1 ≡ q.1) → (p.1 ≡ q.1 → IsTrue b) → (IsTrue b → p ≡ q) × (p ≡ q → IsTrue b)
calls_same p q b names gives holds = (λ h. ap₂ (λ (n : List ℕ) (g : Arguments). (n, g)) names (gives h), λ e. holds (ap (λ (r : List ℕ × Arguments). r.1) e))

not_zero : (n : ℕ) → (suc n == 0) ≡ false
not_zero n = grind (arith, nat_tests)

-- both lists of arguments are at their end
pub both_end : (rest left : List (Option (List ℕ) × Expr)) (one other : Arguments) (b : Bool) → rest ≡ [] → b ≡ (length left == 0)
    → (row (args_view rest) ≡ row (args_view left) → one ≡ other) → (one ≡ other → row (args_view rest) ≡ row (args_view left)) → (IsTrue b → one ≡ other) × (one ≡ other → IsTrue b)
both_end rest [] one other true gone is gives holds = (λ h. gives (ap (λ (l : List (Option (List ℕ) × Expr)). row (args_view l)) gone), λ e. refl)
both_end rest [] one other false gone is gives holds = cc is
both_end rest (x ∷ left) one other true gone is gives holds = absurd (apart (is ∙ not_zero (length left)))
  where
    apart : true ≡ false → ⊥
    apart h = cc h
both_end rest (x ∷ left) one other false gone is gives holds = (λ h. cc h, λ e. absurd (nothing (sym (ap (λ (l : List (Option (List ℕ) × Expr)). row (args_view l)) gone) ∙ holds e)))
  where
    nothing : row [] ≡ row (args_view (x ∷ left)) → ⊥
    nothing h = cc h
