-- A list that a stable sort by a number leaves is `in_order`.
use Rattle.std.proofs.Common.{◌≡◌, ℕ, zero, suc, ◌<◌, ◌≤◌, Bool, true, false, not, ◌&&◌, cond, ℤ, List, [], ◌∷◌, length, get_or, filter, refl, sym, ◌∙◌, ap, subst, arith}
use Rattle.std.specs.Prelude.{int_le, int_lt, take, drop, map}
use Rattle.gl_pages.specs.declared.ask.Ask.{Ask}
use Rattle.gl_pages.specs.declared.hits.Hit.{Hit}
use Rattle.gl_pages.specs.declared.hits.Page.{Page}
use Rattle.gl_pages.specs.Hits.{page_from}
use Rattle.std.specs.Ordering.{int_cmp, is_lt}
use Rattle.std.specs.declared.cmp.Ordering.TheVariants.{Less, Equal, Greater}
use Rattle.std.specs.Cmp.{int_cmp_total}
use Rattle.std.specs.List.Sorted.{IsSortedByKey, IsStableByKey, ties}
use Rattle.std.proofs.lemmas.Int.{ints}
use Rattle.std.proofs.lemmas.List.Elements.{filter_agree}
use Rattle.std.proofs.lemmas.List.Sorted.{ranks_by, sorted_far}
use Rattle.gl_pages.specs.Pages.{put_by, in_order}

-- What is needed of numbers.

itself : (a : ℤ) → int_lt a a ≡ false
itself a = grind (arith, ints)

not_above : (a b : ℤ) → int_le a b ≡ true → int_lt b a ≡ false
not_above a b h = grind (arith, ints)

above : (a b : ℤ) → int_le a b ≡ false → int_lt b a ≡ true
above a b h = grind (arith, ints)

back : (a b : ℤ) → int_lt b a ≡ true → int_lt a b ≡ false
back a b h = grind (arith, ints)

chain : (a b c : ℤ) → int_le a b ≡ true → int_lt c b ≡ false → int_lt c a ≡ false
chain a b c h k = grind (arith, ints)

-- two numbers that tie
abbrev tie : ℤ → ℤ → Bool
tie a b = not (int_lt a b) && not (int_lt b a)

abbrev tied_to : {A : Type 0} → (A → ℤ) → A → A → Bool
tied_to number w x = tie (number w) (number x)

tie_both : (s t : Bool) → s ≡ false → t ≡ false → (not s && not t) ≡ true
tie_both true t h k = cc h
tie_both false true h k = cc k
tie_both false false h k = refl

tie_parts : (s t : Bool) → (not s && not t) ≡ true → (s ≡ false) × (t ≡ false)
tie_parts true t h = cc h
tie_parts false true h = cc h
tie_parts false false h = (refl, refl)

not_both : (a b c : ℤ) → int_lt c b ≡ true → int_lt a b ≡ false → int_lt b a ≡ false → int_lt a c ≡ false → int_lt c a ≡ false → ⊥
not_both a b c h k l m n = grind (arith, ints)

apart : (a b c : ℤ) → int_lt c b ≡ true → tie a b ≡ true → tie a c ≡ true → ⊥
apart a b c h k l =
    let p : (int_lt a b ≡ false) × (int_lt b a ≡ false) = tie_parts (int_lt a b) (int_lt b a) k in
    let q : (int_lt a c ≡ false) × (int_lt c a ≡ false) = tie_parts (int_lt a c) (int_lt c a) l in
    not_both a b c h p.0 p.1 q.0 q.1

tie_itself : (a : ℤ) → tie a a ≡ true
tie_itself a = tie_both (int_lt a a) (int_lt a a) (itself a) (itself a)

less_is : (a b : ℤ) → is_lt (int_cmp a b) ≡ int_lt a b
less_is a b = over (int_lt a b) (int_lt b a)
  where
    over : (s t : Bool) → is_lt (cond s Less (cond t Greater Equal)) ≡ s
    over true t = refl
    over false true = refl
    over false false = refl

-- Each of a list, by cases on the list.

abbrev pub Each : {A : Type 0} → (A → Type 0) → List A → Type 0
Each P [] = Unit {0}
Each P (x ∷ xs) = P x × Each P xs

each_weaker : {A : Type 0} (P Q : A → Type 0) → ((x : A) → P x → Q x) → (xs : List A) → Each P xs → Each Q xs
each_weaker P Q f [] e = tt
each_weaker P Q f (x ∷ xs) e = (f x e.0, each_weaker P Q f xs e.1)

each_from : {A : Type 0} (P : A → Type 0) (xs : List A) → ((k : ℕ) (d : A) → k < length xs → P (get_or xs k d)) → Each P xs
each_from P [] h = tt
each_from P (x ∷ xs) h = (h zero x (omega arith), each_from P xs (λ k d lt. h (suc k) d (omega arith)))

-- what has the first that passes a test
head_has : {A : Type 0} (test : A → Bool) (P : A → Type 0) (xs : List A) (y : A) (rest : List A) → Each P xs → filter test xs ≡ y ∷ rest → P y
head_has test P [] y rest e is = cc is
head_has test P (x ∷ xs) y rest e is = over (test x) is (λ i. head_has test P xs y rest e.1 i)
  where
    over : (b : Bool) → cond b (x ∷ filter test xs) (filter test xs) ≡ y ∷ rest → (filter test xs ≡ y ∷ rest → P y) → P y
    over true i next = let same : x ≡ y = cc i in subst P same e.0
    over false i next = next i

-- In order.

abbrev pub Ordered : {A : Type 0} → (A → ℤ) → List A → Type 0
Ordered number [] = Unit {0}
Ordered number (x ∷ xs) = Each (λ y. int_lt (number y) (number x) ≡ false) xs × Ordered number xs

each_put : {A : Type 0} (number : A → ℤ) (P : A → Type 0) (x : A) (ys : List A) → P x → Each P ys → Each P (put_by number x ys)
each_put number P x [] p e = (p, tt)
each_put number P x (y ∷ ys) p e = over (int_le (number x) (number y)) (each_put number P x ys p e.1)
  where
    over : (b : Bool) → Each P (put_by number x ys) → Each P (cond b (x ∷ (y ∷ ys)) (y ∷ put_by number x ys))
    over true rest = (p, e)
    over false rest = (e.0, rest)

ordered_put : {A : Type 0} (number : A → ℤ) (x : A) (ys : List A) → Ordered number ys → Ordered number (put_by number x ys)
ordered_put number x [] o = (tt, tt)
ordered_put number x (y ∷ ys) o = over (int_le (number x) (number y)) refl (ordered_put number x ys o.1)
  where
    over : (b : Bool) → int_le (number x) (number y) ≡ b → Ordered number (put_by number x ys) → Ordered number (cond b (x ∷ (y ∷ ys)) (y ∷ put_by number x ys))
    over true is rest = (
      (
        not_above (number x) (number y) is,
        each_weaker (λ w. int_lt (number w) (number y) ≡ false) (λ w. int_lt (number w) (number x) ≡ false) (λ w h. chain (number x) (number y) (number w) is h) ys o.0,
      ),
      o,
    )
    over false is rest = (each_put number (λ w. int_lt (number w) (number y) ≡ false) x ys (back (number x) (number y) (above (number x) (number y) is)) o.0, rest)

ordered : {A : Type 0} (number : A → ℤ) (xs : List A) → Ordered number (in_order number xs)
ordered number [] = tt
ordered number (x ∷ xs) = ordered_put number x (in_order number xs) (ordered number xs)

-- Those that tie with one, as they stood.

swap_in : {A : Type 0} (x y : A) (fs gs : List A) (s t : Bool) → (s ≡ true → t ≡ true → ⊥) → gs ≡ cond s (x ∷ fs) fs
    → cond t (y ∷ gs) gs ≡ cond s (x ∷ cond t (y ∷ fs) fs) (cond t (y ∷ fs) fs)
swap_in x y fs gs true true never is = absurd (never refl refl)
swap_in x y fs gs true false never is = is
swap_in x y fs gs false true never is = ap (λ hs. y ∷ hs) is
swap_in x y fs gs false false never is = is

stable_put : {A : Type 0} (number : A → ℤ) (w x : A) (ys : List A)
    → filter (tied_to number w) (put_by number x ys) ≡ filter (tied_to number w) (x ∷ ys)
stable_put number w x [] = refl
stable_put {A} number w x (y ∷ ys) = over (int_le (number x) (number y)) refl (stable_put number w x ys)
  where
    over : (b : Bool) → int_le (number x) (number y) ≡ b → filter (tied_to number w) (put_by number x ys) ≡ filter (tied_to number w) (x ∷ ys)
        → filter (tied_to number w) (cond b (x ∷ (y ∷ ys)) (y ∷ put_by number x ys)) ≡ filter (tied_to number w) (x ∷ (y ∷ ys))
    over true is h = refl
    over false is h = swap_in x y (filter (tied_to number w) ys) (filter (tied_to number w) (put_by number x ys)) (tie (number w) (number x)) (tie (number w) (number y)) (λ s t. apart (number w) (number x) (number y) (above (number x) (number y) is) s t) h

stable : {A : Type 0} (number : A → ℤ) (w : A) (xs : List A) → filter (tied_to number w) (in_order number xs) ≡ filter (tied_to number w) xs
stable number w [] = refl
stable number w (x ∷ xs) =
    stable_put number w x (in_order number xs) ∙ ap (λ fs. cond (tie (number w) (number x)) (x ∷ fs) fs) (stable number w xs)

-- Two lists in order are one where those that tie with any stand alike.

passes : {A : Type 0} (x : A) (fs : List A) (b : Bool) → b ≡ true → cond b (x ∷ fs) fs ≡ x ∷ fs
passes x fs true h = refl
passes x fs false h = cc h

tail_same : {A : Type 0} (y z : A) (fs gs : List A) (s t : Bool) → y ≡ z → s ≡ t → cond s (y ∷ fs) fs ≡ cond t (z ∷ gs) gs → fs ≡ gs
tail_same y z fs gs true true is same h = cc h
tail_same y z fs gs true false is same h = cc same
tail_same y z fs gs false true is same h = cc same
tail_same y z fs gs false false is same h = h

same_ordered : {A : Type 0} (number : A → ℤ) (ys zs : List A) → Ordered number ys → Ordered number zs
    → ((w : A) → filter (tied_to number w) ys ≡ filter (tied_to number w) zs) → ys ≡ zs
same_ordered number [] [] o q f = refl
same_ordered number [] (z ∷ zs) o q f = let h = f z ∙ passes z (filter (tied_to number z) zs) (tie (number z) (number z)) (tie_itself (number z)) in cc h
same_ordered number (y ∷ ys) [] o q f = let h = sym (f y) ∙ passes y (filter (tied_to number y) ys) (tie (number y) (number y)) (tie_itself (number y)) in cc h
same_ordered {A} number (y ∷ ys) (z ∷ zs) o q f =
    let mine : y ∷ filter (tied_to number y) ys ≡ filter (tied_to number y) (z ∷ zs)
    = sym (passes y (filter (tied_to number y) ys) (tie (number y) (number y)) (tie_itself (number y))) ∙ f y in
    let others : z ∷ filter (tied_to number z) zs ≡ filter (tied_to number z) (y ∷ ys)
    = sym (passes z (filter (tied_to number z) zs) (tie (number z) (number z)) (tie_itself (number z))) ∙ sym (f z) in
    let low : int_lt (number y) (number z) ≡ false
    = head_has (tied_to number y) (λ w. int_lt (number w) (number z) ≡ false) (z ∷ zs) y (filter (tied_to number y) ys) (itself (number z), q.0) (sym mine) in
    let high : int_lt (number z) (number y) ≡ false
    = head_has (tied_to number z) (λ w. int_lt (number w) (number y) ≡ false) (y ∷ ys) z (filter (tied_to number z) zs) (itself (number y), o.0) (sym others) in
    let heads : y ∷ filter (tied_to number y) ys ≡ z ∷ filter (tied_to number y) zs
    = mine ∙ passes z (filter (tied_to number y) zs) (tie (number y) (number z)) (tie_both (int_lt (number y) (number z)) (int_lt (number z) (number y)) low high) in
    let is : y ≡ z = cc heads in
    let rest : ys ≡ zs = same_ordered number ys zs o.1 q.1
    (λ w. tail_same y z (filter (tied_to number w) ys) (filter (tied_to number w) zs) (tie (number w) (number y)) (tie (number w) (number z)) is (ap (λ (x : A). tie (number w) (number x)) is) (f w)) in
    cc (is, rest)

-- What a sort says.

ordered_from : {A : Type 0} (number : A → ℤ) (xs : List A) → ((i j : ℕ) (d : A) → i ≤ j → j < length xs → int_lt (number (get_or xs j d)) (number (get_or xs i d)) ≡ false) → Ordered number xs
ordered_from number [] h = tt
ordered_from number (x ∷ xs) h = (
  each_from (λ y. int_lt (number y) (number x) ≡ false) xs (λ k d lt. h zero (suc k) d (omega arith) (omega arith)),
  ordered_from number xs (λ i j d le lt. h (suc i) (suc j) d (omega arith) (omega arith)),
)

pub sorted_is_in_order : {A : Type 0} (number : A → ℤ) (xs ys : List A) → IsSortedByKey number int_cmp ys → IsStableByKey number int_cmp xs ys → ys ≡ in_order number xs
sorted_is_in_order {A} number xs ys sorted keeps =
    same_ordered number ys (in_order number xs)
    (ordered_from number ys (λ i j d le lt. sym (less_is (number (get_or ys j d)) (number (get_or ys i d))) ∙ sorted_far (λ x y. is_lt (int_cmp (number x) (number y))) (ranks_by int_cmp_total number) ys sorted i j d le lt))
    (ordered number xs)
    (λ w. agree w ys ∙ keeps w ∙ sym (agree w xs) ∙ sym (stable number w xs))
  where
    agree : (w : A) (zs : List A) → filter (tied_to number w) zs ≡ filter (ties (λ x y. is_lt (int_cmp (number x) (number y))) w) zs
    agree w zs = filter_agree (tied_to number w) (ties (λ x y. is_lt (int_cmp (number x) (number y))) w) (λ z. sym (tied (less_is (number w) (number z)) (less_is (number z) (number w)))) zs
      where
        tied : {s t u v : Bool} → s ≡ u → t ≡ v → (not s && not t) ≡ (not u && not v)
        tied e f = cc (e, f)

-- The page that is cut from what was put in order.

length-put : {A : Type 0} (number : A → ℤ) (x : A) (ys : List A) → length (put_by number x ys) ≡ suc (length ys)
length-put number x [] = refl
length-put number x (y ∷ ys) = over (int_le (number x) (number y)) (length-put number x ys)
  where
    over : (b : Bool) → length (put_by number x ys) ≡ suc (length ys) → length (cond b (x ∷ (y ∷ ys)) (y ∷ put_by number x ys)) ≡ suc (suc (length ys))
    over true h = refl
    over false h = ap suc h

length-in_order : {A : Type 0} (number : A → ℤ) (xs : List A) → length (in_order number xs) ≡ length xs
length-in_order number [] = refl
length-in_order number (x ∷ xs) = length-put number x (in_order number xs) ∙ ap suc (length-in_order number xs)

abbrev page_with : ℕ → List ℕ → Page
page_with total rows = record { total = total; rows = rows }

pub page_is : (ask : Ask) (hits sorted rest front : List Hit) (total : ℕ) (rows : List ℕ) → sorted ≡ in_order (λ hit. hit.time) hits → total ≡ length sorted
    → rest ≡ drop ask.offset sorted → front ≡ take ask.limit rest → rows ≡ map (λ hit. hit.position) front → page_with total rows ≡ page_from ask hits
unfolding page_from
page_is ask hits sorted rest front total rows order count behind ahead are =
    ap (λ n. page_with n rows) (count ∙ ap length order ∙ length-in_order (λ (hit : Hit). hit.time) hits)
    ∙ ap (page_with (length hits)) (are ∙ ap (map (λ (hit : Hit). hit.position)) (ahead ∙ ap (take ask.limit) (behind ∙ ap (drop ask.offset) order)))
