-- Lists that differ at one place differ.
use Rattle.std.proofs.Common.{◌≡◌, ℕ, zero, suc, ◌<◌, List, [], ◌∷◌, length, get_or, map, sym, ap, ◌∙◌, arith}

pub differ_at : {A B : Type 0} (f : A → B) (xs ys : List A) (k : ℕ) (x y : A) → k < length xs → k < length ys → x ≡ get_or xs k x → y ≡ get_or ys k y → (f x ≡ f y → ⊥) → map f xs ≡ map f ys → ⊥
differ_at f [] ys k x y lt less here there apart same = absurd (omega (arith, lt))
differ_at f (a ∷ xs) [] k x y lt less here there apart same = absurd (omega (arith, less))
differ_at f (a ∷ xs) (b ∷ ys) zero x y lt less here there apart same =
    let first : f a ≡ f b = cc same in
    apart (ap f here ∙ first ∙ sym (ap f there))
differ_at f (a ∷ xs) (b ∷ ys) (suc k) x y lt less here there apart same =
    let more : map f xs ≡ map f ys = cc same in
    differ_at f xs ys k x y (omega (arith, lt)) (omega (arith, less)) here there apart more
