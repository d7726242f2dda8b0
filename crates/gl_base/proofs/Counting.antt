-- Lists of which at most one element passes a test.
use Rattle.std.proofs.Common.{◌≡◌, ℕ, zero, suc, ◌+◌, ◌<◌, ◌≤◌, Bool, true, false, not, ◌||◌, cond, ltb, List, [], ◌∷◌, ◌++◌, length, get_or, take, drop, map, filter, find, count_by, Option, Some, None, option_map, refl, sym, ◌∙◌, ap, arith}
use Rattle.std.specs.List.{All, list_any, remove, slice_get, position, position_or_len}
use Rattle.std.proofs.lemmas.List.Elements.{All-append, All-take, All-drop, All-head, All-tail}
use Rattle.std.proofs.lemmas.List.Folds.{find_at}
use Rattle.std.proofs.lemmas.List.Sums.{sum_by-cons, sum_by-remove, sum_by_push}
use Rattle.std.proofs.lemmas.Bool.Decides.{nat_tests}
use Rattle.std.proofs.lemmas.List.Quantifiers.{position-Some}
use Rattle.std.proofs.lemmas.Option.{slice_get_past, slice_get-get_or}

abbrev pub one_if : Bool → ℕ
one_if b = cond b 1 0

module _ {X : Type 0} (p : X → Bool) where
  pub count-cons : (x : X) (xs : List X) → count_by p (x ∷ xs) ≡ one_if (p x) + count_by p xs
  count-cons x xs = sum_by-cons (λ y. one_if (p y)) x xs

  pub count_push : (xs : List X) (x : X) → count_by p (xs ++ x ∷ []) ≡ count_by p xs + one_if (p x)
  count_push xs x = sum_by_push (λ y. one_if (p y)) xs x

  pub count-remove : (xs : List X) (i : ℕ) (d : X) → i < length xs → count_by p (remove xs i) + one_if (p (get_or xs i d)) ≡ count_by p xs
  count-remove xs i d lt = sum_by-remove (λ y. one_if (p y)) xs i d lt

  -- an element that passes is counted
  pub counted_at : (xs : List X) (i : ℕ) (d : X) → i < length xs → p (get_or xs i d) ≡ true → 0 < count_by p xs
  counted_at xs i d lt passes = omega (arith, count-remove xs i d lt, ap one_if passes)

  any_cons : (b : Bool) (xs : List X) → list_any p xs ≡ ltb 0 (count_by p xs) → (b || list_any p xs) ≡ ltb 0 (one_if b + count_by p xs)
  any_cons true xs so_far = grind arith
  any_cons false xs so_far = so_far ∙ ap (λ n. ltb 0 n) (omega arith)

  pub any_counted : (xs : List X) → list_any p xs ≡ ltb 0 (count_by p xs)
  any_counted [] = refl
  any_counted (x ∷ xs) = any_cons (p x) xs (any_counted xs) ∙ ap (λ n. ltb 0 n) (sym (count-cons x xs))

  find_cons : (b : Bool) (x : X) (xs : List X) → one_if b + count_by p xs ≡ 0 → (count_by p xs ≡ 0 → find p xs ≡ None) → cond b (Some x) (find p xs) ≡ None
  find_cons true x xs none so_far = absurd (omega arith)
  find_cons false x xs none so_far = so_far (omega arith)

  pub find_none : (xs : List X) → count_by p xs ≡ 0 → find p xs ≡ None
  find_none [] none = refl
  find_none (x ∷ xs) none = find_cons (p x) x xs (sym (count-cons x xs) ∙ none) (find_none xs)

  none_cons : (b : Bool) (x : X) (xs : List X) → cond b (Some x) (find p xs) ≡ None → (find p xs ≡ None → count_by p xs ≡ 0) → one_if b + count_by p xs ≡ 0
  none_cons true x xs none so_far = cc none
  none_cons false x xs none so_far = omega (arith, so_far none)

  pub none_counted : (xs : List X) → find p xs ≡ None → count_by p xs ≡ 0
  none_counted [] none = refl
  none_counted (x ∷ xs) none = count-cons x xs ∙ none_cons (p x) x xs none (none_counted xs)

  stay_cons : (b : Bool) (x : X) (xs : List X) → one_if b + count_by p xs ≡ 0 → (count_by p xs ≡ 0 → filter (λ y. not (p y)) xs ≡ xs)
      → cond (not b) (x ∷ filter (λ y. not (p y)) xs) (filter (λ y. not (p y)) xs) ≡ x ∷ xs
  stay_cons true x xs none so_far = absurd (omega arith)
  stay_cons false x xs none so_far = ap (λ (ys : List X). x ∷ ys) (so_far (omega arith))

  -- where none passes, all others are all
  pub all_stay : (xs : List X) → count_by p xs ≡ 0 → filter (λ y. not (p y)) xs ≡ xs
  all_stay [] none = refl
  all_stay (x ∷ xs) none = stay_cons (p x) x xs (sym (count-cons x xs) ∙ none) (all_stay xs)

  gone_cons : (b : Bool) (x : X) (xs : List X) (i : ℕ) → one_if b + count_by p xs ≤ 1 → 0 < count_by p xs → filter (λ y. not (p y)) xs ≡ remove xs i
      → cond (not b) (x ∷ filter (λ y. not (p y)) xs) (filter (λ y. not (p y)) xs) ≡ x ∷ remove xs i
  gone_cons true x xs i few some so_far = absurd (omega arith)
  gone_cons false x xs i few some so_far = ap (λ (ys : List X). x ∷ ys) so_far

  first_cons : (b : Bool) (x : X) (xs : List X) → b ≡ true → one_if b + count_by p xs ≤ 1
      → cond (not b) (x ∷ filter (λ y. not (p y)) xs) (filter (λ y. not (p y)) xs) ≡ xs
  first_cons true x xs passes few = all_stay xs (omega arith)
  first_cons false x xs passes few = cc passes

  -- where only one passes, the others are those that are left when it is removed
  pub others_stay : (xs : List X) (i : ℕ) (d : X) → i < length xs → p (get_or xs i d) ≡ true → count_by p xs ≤ 1 → filter (λ y. not (p y)) xs ≡ remove xs i
  others_stay [] i d lt passes few = absurd (omega arith)
  others_stay (x ∷ xs) zero d lt passes few = first_cons (p x) x xs passes (omega (arith, count-cons x xs))
  others_stay (x ∷ xs) (suc i) d lt passes few =
      gone_cons (p x) x xs i (omega (arith, count-cons x xs)) (counted_at xs i d (omega arith) passes)
      (others_stay xs i d (omega arith) passes (omega (arith, count-cons x xs)))

  found_cons : (b : Bool) (x y : X) (xs : List X) → one_if b + count_by p xs ≤ 1 → 0 < count_by p xs → find p xs ≡ Some y → cond b (Some x) (find p xs) ≡ Some y
  found_cons true x y xs few some so_far = absurd (omega arith)
  found_cons false x y xs few some so_far = so_far

  -- and it is found
  pub one_found : (xs : List X) (i : ℕ) (d : X) → i < length xs → p (get_or xs i d) ≡ true → count_by p xs ≤ 1 → find p xs ≡ Some (get_or xs i d)
  one_found [] i d lt passes few = absurd (omega arith)
  one_found (x ∷ xs) zero d lt passes few = rw passes
  one_found (x ∷ xs) (suc i) d lt passes few =
      found_cons (p x) x (get_or xs i d) xs (omega (arith, count-cons x xs)) (counted_at xs i d (omega arith) passes)
      (one_found xs i d (omega arith) passes (omega (arith, count-cons x xs)))

  -- a wider test counts no fewer
  pub count_mono : (q : X → Bool) (xs : List X) → All (λ x. p x ≡ true → q x ≡ true) xs → count_by p xs ≤ count_by q xs
  count_mono q [] wider = omega arith
  count_mono q (x ∷ xs) wider =
      omega (
        arith,
        count-cons x xs,
        sum_by-cons (λ y. one_if (q y)) x xs,
        one_le (p x) (q x) (All-head (λ y. p y ≡ true → q y ≡ true) x xs wider),
        count_mono q xs (All-tail (λ y. p y ≡ true → q y ≡ true) x xs wider),
      )
    where
      one_le : (a b : Bool) → (a ≡ true → b ≡ true) → one_if a ≤ one_if b
      one_le true b wide = rw (wide refl) (omega arith)
      one_le false b wide = omega arith

pub All-remove : {X : Type 0} (P : X → Type 0) (xs : List X) (i : ℕ) → All P xs → All P (remove xs i)
All-remove P xs i all = All-append P (take i xs) (drop (suc i) xs) (All-take P i xs all) (All-drop P (suc i) xs all)

pub map-remove : {X Y : Type 0} (f : X → Y) (xs : List X) (i : ℕ) → map f (remove xs i) ≡ remove (map f xs) i
map-remove f [] i = none i
  where
    none : (j : ℕ) → map f (remove [] j) ≡ remove (map f []) j
    none zero = refl
    none (suc j) = refl
map-remove f (x ∷ xs) zero = refl
map-remove f (x ∷ xs) (suc i) = ap (λ l. f x ∷ l) (map-remove f xs i)

find_map_cons : {X Y : Type 0} (f : X → Y) (b : Bool) (x : X) (o : Option X) (r : Option Y) → r ≡ option_map f o → cond b (Some (f x)) r ≡ option_map f (cond b (Some x) o)
find_map_cons f true x o r so_far = refl
find_map_cons f false x o r so_far = so_far

pub find-map : {X Y : Type 0} (q : Y → Bool) (f : X → Y) (xs : List X) → find q (map f xs) ≡ option_map f (find (λ x. q (f x)) xs)
find-map q f [] = refl
find-map q f (x ∷ xs) = find_map_cons f (q (f x)) x (find (λ y. q (f y)) xs) (find q (map f xs)) (find-map q f xs)

-- Searches by index.
module _ {X : Type 0} (p : X → Bool) (xs : List X) where
  pub find_at_none : position p xs ≡ None → find p xs ≡ None
  find_at_none none = find_at p xs ∙ slice_get_past xs (position_or_len p xs) (past (position_or_len p xs) (length xs) none)
    where
      past : (i n : ℕ) → ◌≡◌ {A = Option ℕ} (cond (ltb i n) (Some i) None) None → n ≤ i
      past i n none = grind (arith, nat_tests)

  pub find_at_some : (i : ℕ) (d : X) → position p xs ≡ Some i → (i < length xs) × (p (get_or xs i d) ≡ true) × (find p xs ≡ Some (get_or xs i d))
  find_at_some i d some =
      let there = position-Some p xs i d some in
      let same : i ≡ position_or_len p xs = place (position_or_len p xs) (length xs) i some in
      (there.0, there.1, find_at p xs ∙ ap (λ j. slice_get xs j) (sym same) ∙ slice_get-get_or xs i d there.0)
    where
      place : (j n i : ℕ) → ◌≡◌ {A = Option ℕ} (cond (ltb j n) (Some j) None) (Some i) → i ≡ j
      place j n i some = grind (arith, nat_tests)

-- a test that no element passes counts none
pub none_pass : {X : Type 0} (p : X → Bool) (xs : List X) → All (λ x. p x ≡ false) xs → count_by p xs ≡ 0
none_pass p [] all = refl
none_pass p (x ∷ xs) all = count-cons p x xs ∙ rw (All-head (λ y. p y ≡ false) x xs all) (omega (arith, none_pass p xs (All-tail (λ y. p y ≡ false) x xs all)))
