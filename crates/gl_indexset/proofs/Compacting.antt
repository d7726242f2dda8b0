-- The rows that don't pass leave a list, one after another.
use Rattle.std.proofs.Common.{◌≡◌, ◌⊎◌, ⊎_elim, ℕ, zero, suc, ◌+◌, ◌<◌, ◌≤◌, Bool, true, false, cond, List, [], ◌∷◌, ◌++◌, length, get_or, filter, take, drop, Some, refl, sym, ◌∙◌, ap, subst, arith}
use Rattle.std.specs.List.{remove, slice_get}
use Rattle.std.proofs.Math.Seq.{drop-cons}
use Rattle.std.proofs.lemmas.List.{append-nil, length-drop, length-take, get_or-drop, get_or-take, take-append-drop, take_more}
use Rattle.std.proofs.lemmas.List.Elements.{filter-append}
use Rattle.std.proofs.lemmas.Option.{get_or_from_slice_get}
use Rattle.gl_indexset.specs.declared.row.Row.{Row}
use Rattle.gl_indexset.proofs.Sweeping.{filter_all}

module _ {X : Type 0} where
  -- from one place on a list is as another from another place on
  rest_split : (xs ys : List X) (m n : ℕ) (x : X) → n < length ys → drop m xs ≡ drop n ys → slice_get xs m ≡ Some x → (m < length xs) × ((get_or ys n x ≡ x) × (drop (m + 1) xs ≡ drop (n + 1) ys))
  rest_split xs ys m n x lt same is =
      let small : m < length xs = omega (arith, ap (λ (l : List X). length l) same, length-drop m xs, length-drop n ys, lt) in
      let both : get_or xs m x ∷ drop (suc m) xs ≡ get_or ys n x ∷ drop (suc n) ys = sym (drop-cons xs m x small) ∙ same ∙ drop-cons ys n x lt in (
        small,
        (
          heads (get_or xs m x) (get_or ys n x) (drop (suc m) xs) (drop (suc n) ys) both ∙ get_or_from_slice_get xs m x x is,
          ap (λ k. drop k xs) (next m) ∙ tails (get_or xs m x) (get_or ys n x) (drop (suc m) xs) (drop (suc n) ys) both ∙ ap (λ k. drop k ys) (sym (next n)),
        ),
      )
    where
      next : (k : ℕ) → k + 1 ≡ suc k
      next k = omega arith

      heads : (a b : X) (l m : List X) → a ∷ l ≡ b ∷ m → b ≡ a
      heads a b l m h = cc h

      tails : (a b : X) (l m : List X) → a ∷ l ≡ b ∷ m → l ≡ m
      tails a b l m h = cc h

  -- a list without one of its elements, in front of its place and from there on
  front_without : (xs : List X) (n : ℕ) → n < length xs → take n (remove xs n) ≡ take n xs
  front_without [] n lt = absurd (omega (arith, lt))
  front_without (x ∷ xs) zero lt = refl
  front_without (x ∷ xs) (suc n) lt = ap (λ (l : List X). x ∷ l) (front_without xs n (omega (arith, lt)))

  rest_without : (xs : List X) (n : ℕ) → n < length xs → drop n (remove xs n) ≡ drop (suc n) xs
  rest_without [] n lt = absurd (omega (arith, lt))
  rest_without (x ∷ xs) zero lt = refl
  rest_without (x ∷ xs) (suc n) lt = rest_without xs n (omega (arith, lt))

  module _ (p : X → Bool) where
    filter_more : (xs : List X) (n : ℕ) (x : X) → n < length xs → get_or xs n x ≡ x → filter p (take (n + 1) xs) ≡ filter p (take n xs) ++ filter p (x ∷ [])
    filter_more xs n x lt is =
        ap (λ (l : List X). filter p l) (take_more xs n x lt ∙ ap (λ (z : X). take n xs ++ z ∷ []) is) ∙ filter-append p (take n xs) (x ∷ [])

    if_passes : (x : X) → p x ≡ true → filter p (x ∷ []) ≡ x ∷ []
    if_passes x is = ap (λ b. cond b (x ∷ []) []) is

    if_fails : (x : X) → p x ≡ false → filter p (x ∷ []) ≡ []
    if_fails x is = ap (λ b. cond b (x ∷ []) []) is

    module _ (init xs : List X) (kept n : ℕ) (x : X) (lt : n < length init)
        (front : take kept xs ≡ filter p (take n init)) (rest : drop kept xs ≡ drop n init) (is : slice_get xs kept ≡ Some x) where
      here : (kept < length xs) × ((get_or init n x ≡ x) × (drop (kept + 1) xs ≡ drop (n + 1) init))
      here = rest_split xs init kept n x lt rest is

      pub front_kept : p x ≡ true → take (kept + 1) xs ≡ filter p (take (n + 1) init)
      front_kept passes =
          take_more xs kept x here.0
          ∙ ap (λ (z : X). take kept xs ++ z ∷ []) (get_or_from_slice_get xs kept x x is)
          ∙ ap (λ (l : List X). l ++ x ∷ []) front
          ∙ ap (λ (l : List X). filter p (take n init) ++ l) (sym (if_passes x passes))
          ∙ sym (filter_more init n x lt here.1.0)

      pub rest_kept : drop (kept + 1) xs ≡ drop (n + 1) init
      rest_kept = here.1.1

      pub front_dropped : p x ≡ false → take kept (remove xs kept) ≡ filter p (take (n + 1) init)
      front_dropped fails =
          front_without xs kept here.0
          ∙ front
          ∙ sym (append-nil (filter p (take n init)))
          ∙ ap (λ (l : List X). filter p (take n init) ++ l) (sym (if_fails x fails))
          ∙ sym (filter_more init n x lt here.1.0)

      pub rest_dropped : drop kept (remove xs kept) ≡ drop (n + 1) init
      rest_dropped = rest_without xs kept here.0 ∙ ap (λ m. drop m xs) (next kept) ∙ here.1.1
        where
          next : (m : ℕ) → suc m ≡ m + 1
          next m = omega arith

    -- all before the first place pass
    pub front_first : (init : List X) (n : ℕ) → n ≤ length init → ((k : ℕ) (d : X) → k < n → p (get_or init k d) ≡ true) → take n init ≡ filter p (take n init)
    front_first init n le passes = sym (filter_all p (take n init) (λ k d lt.
        let less : k < n = omega (arith, lt, length-take n init) in
        subst (λ (z : X). p z ≡ true) (sym (get_or-take n init k d less)) (passes k d less)))

    -- and all behind the last one
    pub all_kept : (init xs : List X) (kept n : ℕ) → take kept xs ≡ filter p (take n init) → drop kept xs ≡ drop n init
        → ((k : ℕ) (d : X) → n ≤ k → k < length init → p (get_or init k d) ≡ true) → xs ≡ filter p init
    all_kept init xs kept n front rest passes =
        sym (take-append-drop kept xs)
        ∙ ap (λ (l : List X). l ++ drop kept xs) front
        ∙ ap (λ (l : List X). filter p (take n init) ++ l) (rest ∙ sym behind)
        ∙ sym (filter-append p (take n init) (drop n init))
        ∙ ap (λ (l : List X). filter p l) (take-append-drop n init)
      where
        behind : filter p (drop n init) ≡ drop n init
        behind = filter_all p (drop n init) (λ k d lt. subst (λ (z : X). p z ≡ true) (sym (get_or-drop n init k d)) (passes (n + k) d (omega arith) (omega (arith, lt, length-drop n init))))

-- the rows from one position on begin no later than those from a later one
pub in_turn : (rows : List Row) (first last from to : ℕ) → first ≤ length rows → from ≤ to
    → ((k : ℕ) (d : Row) → k < first → (get_or rows k d).position < from)
    → ((k : ℕ) (d : Row) → last ≤ k → k < length rows → to ≤ (get_or rows k d).position) → first ≤ last
in_turn [] first last from to within order before behind = omega (arith, within)
in_turn (row ∷ rows) first last from to within order before behind = ⊎_elim
    (λ (le : first ≤ last). le)
    (λ (lt : last < first). absurd (omega (arith, before last row lt, behind last row (omega arith) (omega (arith, lt, within)), order)))
    (two_ways first last)
  where
    two_ways : (m n : ℕ) → (m ≤ n) ⊎ (n < m)
    two_ways m n = grind arith
