-- All rules that stages name.
use Rattle.std.proofs.Common.{◌≡◌, ℕ, zero, suc, ◌<◌, Bool, true, false, List, [], ◌∷◌, length, get_or, ◌&&◌, refl, ap, ◌∙◌, arith}
use Rattle.std.specs.List.{list_all, flat_map}
use Rattle.std.proofs.lemmas.List.Folds.{list_all-append}

both_false : (a : Bool) → (a && false) ≡ false
both_false true = refl
both_false false = refl

-- one list with one that isn't there is enough
pub not_all_staged : {A B : Type 0} (p : B → Bool) (f : A → List B) (xs : List A) (i : ℕ) (d : A) → i < length xs → list_all p (f (get_or xs i d)) ≡ false → list_all p (flat_map f xs) ≡ false
not_all_staged p f [] i d lt e = absurd (omega (arith, lt))
not_all_staged p f (x ∷ xs) zero d lt e = list_all-append p (f x) (flat_map f xs) ∙ ap (λ b. b && list_all p (flat_map f xs)) e
not_all_staged p f (x ∷ xs) (suc i) d lt e =
    list_all-append p (f x) (flat_map f xs) ∙ ap (λ b. list_all p (f x) && b) (not_all_staged p f xs i d (omega (arith, lt)) e) ∙ both_false (list_all p (f x))
