-- Which ids pass a filter, and which of some elements has a key.
use Rattle.std.proofs.Common.{◌≡◌, ℕ, zero, suc, ◌<◌, Bool, true, false, ◌&&◌, ◌||◌, ◌==◌, cond, List, [], ◌∷◌, length, get_or, filter, find, map, eqb-true, refl, sym, ap, ◌∙◌, arith, Some, bytes_eq}
use Rattle.std.specs.List.{All, AllByRecursion, list_any, list_all, IsDistinct}
use Rattle.std.proofs.lemmas.Bool.Decides.{nat_tests}
use Rattle.std.proofs.lemmas.List.Elements.{All-head, All-tail, All-map}
use Rattle.std.proofs.lemmas.List.Folds.{list_any_at}
use Rattle.std.proofs.lemmas.Slice.Eq.{bytes_eq-Decides}
use Rattle.gl_fields.specs.Fields.{Rises}

either : (b e rest : Bool) (test : ℕ → Bool) (x : ℕ) (xs : List ℕ) → list_any test (cond b (x ∷ xs) xs) ≡ ((b && test x) || list_any test xs)
either true e rest test x xs = refl
either false e rest test x xs = refl

mixed : (at here e rest : Bool) → (e ≡ true → at ≡ here) → ((at && e) || (here && rest)) ≡ (here && (e || rest))
mixed true true true rest h = refl
mixed true false true rest h = cc (h refl)
mixed false true true rest h = cc (h refl)
mixed false false true rest h = refl
mixed true here false rest h = refl
mixed false here false rest h = refl

no_and : (b : Bool) → false ≡ (b && false)
no_and true = refl
no_and false = refl

-- an id passes a filter where it stands in the list and passes the test
pub filter_has : (id : ℕ) (p : ℕ → Bool) (ids : List ℕ) → list_any (λ other. other == id) (filter p ids) ≡ (p id && list_any (λ other. other == id) ids)
filter_has id p [] = no_and (p id)
filter_has id p (x ∷ xs) =
    either (p x) true true (λ other. other == id) x (filter p xs)
    ∙ ap (λ t. (p x && (x == id)) || t) (filter_has id p xs)
    ∙ mixed (p x) (p id) (x == id) (list_any (λ other. other == id) xs) (λ e. ap p (eqb-true x id e))

pub mapped_has : {X : Type 0} (id_of : X → ℕ) (id : ℕ) (xs : List X) → list_any (λ other. other == id) (map id_of xs) ≡ list_any (λ x. id_of x == id) xs
mapped_has id_of id [] = refl
mapped_has id_of id (x ∷ xs) = ap (λ t. (id_of x == id) || t) (mapped_has id_of id xs)

pub once : (there may : Bool) → ((there && may) && there) ≡ (there && may)
once true true = refl
once true false = refl
once false may = refl

pub filter_all : (p : ℕ → Bool) (xs : List ℕ) → All (λ x. p x ≡ true) xs → filter p xs ≡ xs
filter_all p [] all = refl
filter_all p (x ∷ xs) all =
    ap (λ b. cond b (x ∷ filter p xs) (filter p xs)) (All-head (λ y. p y ≡ true) x xs all)
    ∙ ap (λ l. x ∷ l) (filter_all p xs (All-tail (λ y. p y ≡ true) x xs all))

same_number : (n : ℕ) → (n == n) ≡ true
same_number n = grind (arith, nat_tests)

-- each id stands among them
pub each_there : (ids : List ℕ) → All (λ id. list_any (λ other. other == id) ids ≡ true) ids
each_there ids k d lt = list_any_at (λ other. other == get_or ids k d) ids k d lt (same_number (get_or ids k d))

passed : (test : ℕ → Bool) (x id : ℕ) (same passes all has : Bool) → (x == id) ≡ same → test x ≡ passes → (passes && all) ≡ true → (same || has) ≡ true
    → (all ≡ true → has ≡ true → test id ≡ true) → test id ≡ true
passed test x id true true all has e t h k rest = ap test (sym (eqb-true x id e)) ∙ t
passed test x id false true all has e t h k rest = rest h k
passed test x id same false all has e t h k rest = cc h

-- where all of a list pass a test, each id of it does
pub passing : (test : ℕ → Bool) (id : ℕ) (ids : List ℕ) → list_all test ids ≡ true → list_any (λ other. other == id) ids ≡ true → test id ≡ true
passing test id [] all h = cc h
passing test id (x ∷ xs) all h =
    passed test x id (x == id) (test x) (list_all test xs) (list_any (λ other. other == id) xs) refl refl all h (λ a k. passing test id xs a k)

pub both_there : (there has : Bool) → (has ≡ true → there ≡ true) → (there && has) ≡ has
both_there true true h = refl
both_there false true h = h refl
both_there true false h = refl
both_there false false h = refl

pub rises_mapped : {X : Type 0} (id_of : X → ℕ) (xs : List X) → Rises (λ a b. id_of a < id_of b) xs → Rises (λ (a b : ℕ). a < b) (map id_of xs)
rises_mapped id_of [] rises = tt
rises_mapped id_of (x ∷ xs) rises = (All-map (λ b. id_of x < b) id_of xs rises.0, rises_mapped id_of xs rises.1)

unlike : {X : Type 0} (key_of : X → List ℕ) (key : List ℕ) (xs : List X) → AllByRecursion (λ other. bytes_eq key other ≡ false) (map key_of xs)
    → (x : X) (k : ℕ) → k < length xs → get_or xs k x ≡ x → bytes_eq key (key_of x) ≡ false
unlike key_of key [] all x k lt at = absurd (omega arith)
unlike key_of key (y ∷ ys) all x zero lt at = ap (λ z. bytes_eq key (key_of z)) (sym at) ∙ all.0
unlike key_of key (y ∷ ys) all x (suc k) lt at = unlike key_of key ys all.1 x k (omega arith) at

-- where no key stands twice, the element that has a key is the first of it
pub has_key : {X : Type 0} (key_of : X → List ℕ) (key : List ℕ) (xs : List X) → IsDistinct bytes_eq (map key_of xs)
    → (x : X) (k : ℕ) → k < length xs → get_or xs k x ≡ x → key_of x ≡ key → find (λ y. bytes_eq (key_of y) key) xs ≡ Some x
unfolding IsDistinct
has_key key_of key [] distinct x k lt at is = absurd (omega arith)
has_key key_of key (y ∷ ys) distinct x zero lt at is =
    ap (λ b. cond b (Some y) (find (λ z. bytes_eq (key_of z) key) ys)) ((bytes_eq-Decides (key_of y) key).1 (ap key_of at ∙ is)) ∙ ap Some at
has_key key_of key (y ∷ ys) distinct x (suc k) lt at is =
    ap (λ b. cond b (Some y) (find (λ z. bytes_eq (key_of z) key) ys)) (ap (λ z. bytes_eq (key_of y) z) (sym is) ∙ unlike key_of (key_of y) ys distinct.0 x k (omega arith) at)
    ∙ has_key key_of key ys distinct.1 x k (omega arith) at is
