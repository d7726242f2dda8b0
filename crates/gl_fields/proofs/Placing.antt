-- What stands at a place of a map, and the map with a field put there.
use Rattle.std.proofs.Common.{◌≡◌, ℕ, ◌+◌, ◌<◌, ◌≤◌, Bool, true, false, List, [], ◌∷◌, ◌++◌, length, take, drop, get_or, filter, refl, sym, ◌∙◌, ap, arith, add-one, drop-cons, subst, ltb, Result, Ok, Err, Some, None}
use Rattle.std.specs.List.{All, HoldsAt, insert}
use Rattle.std.specs.List.Sorted.{IsBinarySearchResult, IsSearchInRange, IsNonDecreasingBy}
use Rattle.std.specs.Ordering.{ordering_index}
use Rattle.std.specs.Str.{bytes_eq}
use Rattle.std.specs.declared.cmp.Ordering.{Ordering}
use Rattle.std.specs.declared.cmp.Ordering.TheVariants.{Less, Equal, Greater}
use Rattle.std.proofs.lemmas.List.{take-append-drop, append-nil, get_or-take, get_or-drop, length-take, length-drop}
use Rattle.std.proofs.lemmas.List.Elements.{All-head, All-tail, All-nil, All-cons, All-weaker, filter-append}
use borrow.Author.Tests.{ltb-true, ltb-false}
use Rattle.gl_fields.specs.declared.field.Field.{Field}
use Rattle.gl_fields.specs.Fields.{comes_before, first_value, named, value_of, with_field, Rises}
use Rattle.gl_fields.specs.Places.{Parts, IsPlaceOf}
use Rattle.gl_fields.proofs.Names.{order, before-trans, Less-from_before, before-from_Less, before-from_Greater, same-from_Equal, itself_same, same_differs, same_differs_back, not_before_back, not_before_itself}
use Rattle.gl_fields.proofs.Rising.{Rises-at}

pub filter-all : {X : Type 0} (p : X → Bool) (xs : List X) → All (λ (x : X). p x ≡ true) xs → filter p xs ≡ xs
filter-all p [] all = refl
filter-all {X} p (x ∷ xs) all =
    let first : p x ≡ true = All-head (λ (x : X). p x ≡ true) x xs all in
    let rest : filter p xs ≡ xs = filter-all p xs (All-tail (λ (x : X). p x ≡ true) x xs all) in
    rw first (ap (λ (l : List X). x ∷ l) rest)

pub filter-none : {X : Type 0} (p : X → Bool) (xs : List X) → All (λ (x : X). p x ≡ false) xs → filter p xs ≡ []
filter-none p [] all = refl
filter-none {X} p (x ∷ xs) all =
    let first : p x ≡ false = All-head (λ (x : X). p x ≡ false) x xs all in
    rw first (filter-none p xs (All-tail (λ (x : X). p x ≡ false) x xs all))

-- a filter that passes the middle of three parts alone, or one of the others
pub filter-parts : {X : Type 0} (p : X → Bool) (front middle back : List X)
    → filter p (front ++ (middle ++ back)) ≡ filter p front ++ (filter p middle ++ filter p back)
filter-parts {X} p front middle back =
    filter-append p front (middle ++ back) ∙ ap (λ (l : List X). filter p front ++ l) (filter-append p middle back)

abbrev pub Earlier : List ℕ → Field → Type 0
Earlier name field = comes_before field.name name ≡ true

abbrev pub Later : List ℕ → Field → Type 0
Later name field = comes_before name field.name ≡ true

abbrev pub Named : List ℕ → Field → Type 0
Named name field = field.name ≡ name

pub with_field-parts : (field : Field) (front middle back : List Field)
    → All (Earlier field.name) front → All (Named field.name) middle → All (Later field.name) back
    → with_field field (front ++ (middle ++ back)) ≡ front ++ field ∷ back
with_field-parts field front middle back earlier same later =
    let before : Field → Bool = λ (f : Field). comes_before f.name field.name in
    let after : Field → Bool = λ (f : Field). comes_before field.name f.name in
    let before_middle : filter before middle ≡ [] = filter-none before middle (All-weaker (Named field.name) (λ (f : Field). before f ≡ false) (λ f e. ap (λ (n : List ℕ). comes_before n field.name) e ∙ not_before_itself field.name) middle same) in
    let before_back : filter before back ≡ [] = filter-none before back (All-weaker (Later field.name) (λ (f : Field). before f ≡ false) (λ f e. not_before_back f.name field.name e) back later) in
    let after_front : filter after front ≡ [] = filter-none after front (All-weaker (Earlier field.name) (λ (f : Field). after f ≡ false) (λ f e. not_before_back field.name f.name e) front earlier) in
    let after_middle : filter after middle ≡ [] = filter-none after middle (All-weaker (Named field.name) (λ (f : Field). after f ≡ false) (λ f e. ap (λ (n : List ℕ). comes_before field.name n) e ∙ not_before_itself field.name) middle same) in
    let first : filter before (front ++ (middle ++ back)) ≡ front = filter-parts before front middle back ∙ (λ i. filter-all before front earlier i ++ (before_middle i ++ before_back i)) ∙ append-nil front in
    let second : filter after (front ++ (middle ++ back)) ≡ back = filter-parts after front middle back ∙ (λ i. after_front i ++ (after_middle i ++ filter-all after back later i)) in
    λ i. first i ++ field ∷ second i

pub named-parts : (name : List ℕ) (front middle back : List Field)
    → All (Earlier name) front → All (Named name) middle → All (Later name) back
    → named name (front ++ (middle ++ back)) ≡ middle
named-parts name front middle back earlier same later =
    let test : Field → Bool = λ (f : Field). bytes_eq f.name name in
    let in_front : filter test front ≡ [] = filter-none test front (All-weaker (Earlier name) (λ (f : Field). test f ≡ false) (λ f e. same_differs f.name name e) front earlier) in
    let in_back : filter test back ≡ [] = filter-none test back (All-weaker (Later name) (λ (f : Field). test f ≡ false) (λ f e. same_differs_back f.name name e) back later) in
    let in_middle : filter test middle ≡ middle = filter-all test middle (All-weaker (Named name) (λ (f : Field). test f ≡ true) (λ f e. ap (λ (n : List ℕ). bytes_eq n name) e ∙ itself_same name) middle same) in
    filter-parts test front middle back ∙ (λ i. in_front i ++ (in_middle i ++ in_back i)) ∙ append-nil middle

-- a list around an index, and around the element at it
pub around : {X : Type 0} (xs : List X) (at : ℕ) → xs ≡ take at xs ++ ([] ++ drop at xs)
around xs at = sym (take-append-drop at xs)

pub around_one : {X : Type 0} (xs : List X) (at : ℕ) (d : X) → at < length xs → xs ≡ take at xs ++ ((get_or xs at d ∷ []) ++ drop (at + 1) xs)
around_one {X} xs at d lt =
    sym (take-append-drop at xs) ∙ ap (λ (l : List X). take at xs ++ l) (drop-cons xs at d lt ∙ ap (λ (n : ℕ). get_or xs at d ∷ drop n xs) (sym (add-one at)))

pub one_named : (name : List ℕ) (field : Field) → field.name ≡ name → All (Named name) (field ∷ [])
one_named name field e = All-cons (Named name) field [] e (All-nil (Named name))

pub with_field-new : (field : Field) (fields : List Field) (at : ℕ) → Parts field.name fields at at → with_field field fields ≡ insert fields at field
with_field-new field fields at parts =
    ap (with_field field) (around fields at)
    ∙ with_field-parts field (take at fields) [] (drop at fields) parts.earlier (All-nil (Named field.name)) parts.later

pub with_field-old : (field : Field) (fields : List Field) (at : ℕ) → Parts field.name fields at (at + 1) → HoldsAt (Named field.name) fields at
    → with_field field fields ≡ take at fields ++ field ∷ drop (at + 1) fields
with_field-old field fields at parts same =
    let within : at < length fields = omega (arith, parts.within) in
    ap (with_field field) (around_one fields at field within)
    ∙ with_field-parts field (take at fields) (get_or fields at field ∷ []) (drop (at + 1) fields) parts.earlier (one_named field.name (get_or fields at field) (same field)) parts.later

pub value_of-new : (name : List ℕ) (fields : List Field) (at : ℕ) → Parts name fields at at → value_of name fields ≡ None
value_of-new name fields at parts =
    ap (value_of name) (around fields at)
    ∙ ap first_value (named-parts name (take at fields) [] (drop at fields) parts.earlier (All-nil (Named name)) parts.later)

pub value_of-old : (name : List ℕ) (fields : List Field) (at : ℕ) (d : Field) → Parts name fields at (at + 1) → HoldsAt (Named name) fields at
    → value_of name fields ≡ Some (get_or fields at d).value
value_of-old name fields at d parts same =
    let within : at < length fields = omega (arith, parts.within) in
    ap (value_of name) (around_one fields at d within)
    ∙ ap first_value (named-parts name (take at fields) (get_or fields at d ∷ []) (drop (at + 1) fields) parts.earlier (one_named name (get_or fields at d) (same d)) parts.later)

-- From what the search finds to the parts.

All-take-from : {X : Type 0} (P : X → Type 0) (xs : List X) (i : ℕ) → ((k : ℕ) (d : X) → k < i → k < length xs → P (get_or xs k d)) → All P (take i xs)
All-take-from P xs i holds = λ k d lt.
    let below : k < i = omega (arith, lt, length-take i xs) in
    let within : k < length xs = omega (arith, lt, length-take i xs) in
    subst P (sym (get_or-take i xs k d below)) (holds k d below within)

All-drop-from : {X : Type 0} (P : X → Type 0) (xs : List X) (i : ℕ) → ((k : ℕ) (d : X) → i ≤ k → k < length xs → P (get_or xs k d)) → All P (drop i xs)
All-drop-from P xs i holds = λ k d lt.
    subst P (sym (get_or-drop i xs k d)) (holds (i + k) d (omega arith) (omega (arith, lt, length-drop i xs)))

index_most : (o : Ordering) → ordering_index o ≤ 2
index_most Less = omega arith
index_most Equal = omega arith
index_most Greater = omega arith

zero_below : (o : Ordering) (n : ℕ) → o ≡ Less → ordering_index o ≤ n
zero_below o n e = rw e (omega arith)

index_rises : (a b name : List ℕ) → comes_before a b ≡ true → ordering_index (order a name) ≤ ordering_index (order b name)
index_rises a b name before = by (order b name) refl
  where
    by : (o : Ordering) → order b name ≡ o → ordering_index (order a name) ≤ ordering_index o
    by Less e = zero_below (order a name) 0 (Less-from_before a name (before-trans a b name before (before-from_Less b name e)))
    by Equal e = zero_below (order a name) 1 (Less-from_before a name (ap (λ (n : List ℕ). comes_before a n) (sym (same-from_Equal b name e)) ∙ before))
    by Greater e = index_most (order a name)

module _ (name : List ℕ) (fields : List Field) (rises : Rises (λ (a b : Field). comes_before a.name b.name ≡ true) fields) where
  indices_rise : IsNonDecreasingBy (λ (f : Field). ordering_index (order f.name name)) fields
  indices_rise i j d le within = by (ltb i j) refl
    where
      by : (b : Bool) → ltb i j ≡ b → ordering_index (order (get_or fields i d).name name) ≤ ordering_index (order (get_or fields j d).name name)
      by true e = index_rises (get_or fields i d).name (get_or fields j d).name name (Rises-at (λ (a b : Field). comes_before a.name b.name ≡ true) fields rises i j d (ltb-true i j e) within)
      by false e = let same : i ≡ j = omega (arith, le, ltb-false i j e) in rw same (omega arith)

  pub place_at : (r : Result ℕ ℕ) → IsSearchInRange r (length fields) → IsBinarySearchResult (λ (f : Field). order f.name name) fields r → IsPlaceOf name fields r
  place_at (Ok at) within equal =
      let R : Field → Field → Type 0 = λ (a b : Field). comes_before a.name b.name ≡ true in
      let same : HoldsAt (Named name) fields at = λ d. same-from_Equal (get_or fields at d).name name (equal d) in (
        record {
          within = omega (arith, within);
          earlier = All-take-from (Earlier name) fields at (λ k d lt short. ap (λ (n : List ℕ). comes_before (get_or fields k d).name n) (sym (same d)) ∙ Rises-at R fields rises k at d lt within);
          later = All-drop-from (Later name) fields (at + 1) (λ k d le short. ap (λ (n : List ℕ). comes_before n (get_or fields k d).name) (sym (same d)) ∙ Rises-at R fields rises at k d (omega arith) short);
        },
        same,
      )
  place_at (Err at) within split =
      let parts = split indices_rise in
      record {
        within = within;
        earlier = All-take-from (Earlier name) fields at (λ k d lt short. before-from_Less (get_or fields k d).name name (parts.0 k d (omega arith) lt));
        later = All-drop-from (Later name) fields at (λ k d le short. before-from_Greater (get_or fields k d).name name (parts.1 k d le short));
      }
