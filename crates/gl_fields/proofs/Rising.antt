-- Lists in which each element stands in a relation to each later one.
use Rattle.std.proofs.Common.{ℕ, zero, suc, ◌<◌, List, [], ◌∷◌, ◌++◌, length, take, drop, get_or, filter, Bool, true, false, cond, arith}
use Rattle.std.specs.List.{All}
use Rattle.std.proofs.lemmas.List.Elements.{All-head, All-tail, All-cons, All-append, All-weaker, All-take, All-filter}
use Rattle.gl_fields.specs.Fields.{Rises}

module _ {X : Type 0} (R : X → X → Type 0) where
  pub Rises-take : (n : ℕ) (xs : List X) → Rises R xs → Rises R (take n xs)
  Rises-take zero xs rises = tt
  Rises-take (suc n) [] rises = tt
  Rises-take (suc n) (x ∷ xs) rises = (All-take (R x) n xs rises.0, Rises-take n xs rises.1)

  pub Rises-drop : (n : ℕ) (xs : List X) → Rises R xs → Rises R (drop n xs)
  Rises-drop zero xs rises = rises
  Rises-drop (suc n) [] rises = tt
  Rises-drop (suc n) (x ∷ xs) rises = Rises-drop n xs rises.1

  -- the element at an index before the one at a later index
  pub Rises-at : (xs : List X) → Rises R xs → (i j : ℕ) (d : X) → i < j → j < length xs → R (get_or xs i d) (get_or xs j d)
  Rises-at [] rises i j d lt within = absurd (omega arith)
  Rises-at (x ∷ xs) rises i zero d lt within = absurd (omega arith)
  Rises-at (x ∷ xs) rises zero (suc j) d lt within = rises.0 j d (omega arith)
  Rises-at (x ∷ xs) rises (suc i) (suc j) d lt within = Rises-at xs rises.1 i j d (omega arith) (omega arith)

  pub Rises-joined : ((a b c : X) → R a b → R b c → R a c) → (front : List X) (x : X) (back : List X)
      → Rises R front → All (λ (f : X). R f x) front → All (R x) back → Rises R back → Rises R (front ++ x ∷ back)
  Rises-joined trans [] x back rises before after later = (after, later)
  Rises-joined trans (f ∷ front) x back rises before after later =
      let first : R f x = All-head (λ (g : X). R g x) f front before in (
        All-append (R f) front (x ∷ back) rises.0
            (All-cons (R f) x back first (All-weaker (R x) (R f) (λ b h. trans f x b first h) back after)),
        Rises-joined trans front x back rises.1 (All-tail (λ (g : X). R g x) f front before) after later,
      )

  pub Rises-filter : (p : X → Bool) (xs : List X) → Rises R xs → Rises R (filter p xs)
  Rises-filter p [] rises = tt
  Rises-filter p (x ∷ xs) rises =
      elim (p x) as (λ b. Rises R (cond b (x ∷ filter p xs) (filter p xs))) [
        | true ↦ (All-filter p (R x) xs rises.0, Rises-filter p xs rises.1)
        | false ↦ Rises-filter p xs rises.1
      ]
