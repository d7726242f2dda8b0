-- Lists of rows in order of position: parts of them, and one taken out.
use Rattle.std.proofs.Common.{◌≡◌, ◌⊎◌, inl, inr, ℕ, zero, suc, ◌+◌, ◌<◌, ◌≤◌, ◌==◌, Bool, true, false, not, cond, List, [], ◌∷◌, ◌++◌, length, get_or, filter, take, drop, refl, sym, ◌∙◌, ap, subst, arith}
use Rattle.std.specs.List.{All, AllPairs, Contains}
use Rattle.std.proofs.lemmas.Bool.Decides.{nat_tests}
use Rattle.std.proofs.lemmas.List.Elements.{filter-append}
use Rattle.gl_indexset.specs.declared.row.Row.{Row}
use Rattle.gl_indexset.specs.Leaving.{without}
use Rattle.gl_indexset.specs.Rising.{AreBelow, AreRising}
use Rattle.gl_postings.proofs.Ordering.{Each, Has, Pairs, all_pairs, contains_from, each_at, each_from, has_from, pairs_from}

abbrev pub Before : Row → Row → Type 0
Before a b = a.position < b.position

pub each_joined : {A : Type 0} (P : A → Type 0) (xs ys : List A) → Each P xs → Each P ys → Each P (xs ++ ys)
each_joined P [] ys e f = f
each_joined P (x ∷ xs) ys e f = (e.0, each_joined P xs ys e.1 f)

each_front : {A : Type 0} (P : A → Type 0) (xs ys : List A) → Each P (xs ++ ys) → Each P xs
each_front P [] ys e = tt
each_front P (x ∷ xs) ys e = (e.0, each_front P xs ys e.1)

each_back : {A : Type 0} (P : A → Type 0) (xs ys : List A) → Each P (xs ++ ys) → Each P ys
each_back P [] ys e = e
each_back P (x ∷ xs) ys e = each_back P xs ys e.1

pairs_front : {A : Type 0} (R : A → A → Type 0) (xs ys : List A) → Pairs R (xs ++ ys) → Pairs R xs
pairs_front R [] ys p = tt
pairs_front R (x ∷ xs) ys p = (each_front (R x) xs ys p.0, pairs_front R xs ys p.1)

pub pairs_joined : {A : Type 0} (R : A → A → Type 0) (xs ys : List A) → Pairs R xs → Pairs R ys → Each (λ x. Each (R x) ys) xs → Pairs R (xs ++ ys)
pairs_joined R [] ys p q c = q
pairs_joined R (x ∷ xs) ys p q c = (each_joined (R x) xs ys p.0 c.0, pairs_joined R xs ys p.1 q c.1)

-- a front of rising rows rises
pub rising_front : (xs ys : List Row) → AreRising (xs ++ ys) → AreRising xs
rising_front xs ys rising = all_pairs Before xs (pairs_front Before xs ys (pairs_from Before (xs ++ ys) rising))

below_last : (xs : List Row) (x : Row) → Pairs Before (xs ++ x ∷ []) → Each (λ (y : Row). y.position < x.position) xs
below_last [] x p = tt
below_last (y ∷ ys) x p = ((each_back (Before y) ys (x ∷ []) p.0).0, below_last ys x p.1)

-- the last of rising rows stands above the others
pub last_above : (xs : List Row) (x : Row) → AreRising (xs ++ x ∷ []) → AreBelow x.position xs
last_above xs x rising = each_at (λ (y : Row). y.position < x.position) xs (below_last xs x (pairs_from Before (xs ++ x ∷ []) rising))

-- Taking a row out by its position.

differs_up : (m n : ℕ) → m < n → not (n == m) ≡ true
differs_up m n lt = grind (arith, nat_tests)

differs_down : (m n : ℕ) → n < m → not (n == m) ≡ true
differs_down m n lt = grind (arith, nat_tests)

is_itself : (n : ℕ) → not (n == n) ≡ false
is_itself n = grind (arith, nat_tests)

kept_all : (position : ℕ) (xs : List Row) → Each (λ (y : Row). not (y.position == position) ≡ true) xs → without position xs ≡ xs
kept_all position [] e = refl
kept_all position (x ∷ xs) e = over (not (x.position == position)) e.0 (kept_all position xs e.1)
  where
    over : (b : Bool) → b ≡ true → without position xs ≡ xs → cond b (x ∷ without position xs) (without position xs) ≡ x ∷ xs
    over true t h = ap (λ ys. x ∷ ys) h
    over false t h = cc t

each_to : {A : Type 0} (P Q : A → Type 0) → ((x : A) → P x → Q x) → (xs : List A) → Each P xs → Each Q xs
each_to P Q f [] e = tt
each_to P Q f (x ∷ xs) e = (f x e.0, each_to P Q f xs e.1)

without_none : (x : Row) (ys : List Row) → Each (Before x) ys → without x.position ys ≡ ys
without_none x ys e = kept_all x.position ys (each_to (Before x) (λ (y : Row). not (y.position == x.position) ≡ true) (λ y lt. differs_up x.position y.position lt) ys e)

without_first : (x : Row) (ys : List Row) → Each (Before x) ys → without x.position (x ∷ ys) ≡ ys
without_first x ys e = over (not (x.position == x.position)) (is_itself x.position) (without_none x ys e)
  where
    over : (b : Bool) → b ≡ false → without x.position ys ≡ ys → cond b (x ∷ without x.position ys) (without x.position ys) ≡ ys
    over true t h = cc t
    over false t h = h

-- what comes behind a row of the front
behind_front : (xs ys : List Row) (x : Row) → Pairs Before (xs ++ ys) → Has xs x → Each (Before x) ys
behind_front [] ys x p h = absurd h
behind_front (y ∷ xs) ys x p (inl is) = subst (λ (r : Row). Each (Before r) ys) is (each_back (Before y) xs ys p.0)
behind_front (y ∷ xs) ys x p (inr h) = behind_front xs ys x p.1 h

-- a row of the front is taken out of the front
pub without_front : (xs ys : List Row) (x : Row) → AreRising (xs ++ ys) → Contains xs x → without x.position (xs ++ ys) ≡ without x.position xs ++ ys
without_front xs ys x rising c =
    filter-append (λ (row : Row). not (row.position == x.position)) xs ys
    ∙ ap (λ zs. without x.position xs ++ zs) (without_none x ys (behind_front xs ys x (pairs_from Before (xs ++ ys) rising) (has_from xs x c)))

front_of : (xs ys : List Row) (x : Row) → Pairs Before (xs ++ x ∷ ys) → Each (λ (y : Row). y.position < x.position) xs
front_of [] ys x p = tt
front_of (y ∷ xs) ys x p = ((each_back (Before y) xs (x ∷ ys) p.0).0, front_of xs ys x p.1)

back_of : (xs ys : List Row) (x : Row) → Pairs Before (xs ++ x ∷ ys) → Each (Before x) ys
back_of [] ys x p = p.0
back_of (y ∷ xs) ys x p = back_of xs ys x p.1

-- a row in the middle is taken out there
pub without_middle : (xs ys : List Row) (x : Row) → AreRising (xs ++ x ∷ ys) → without x.position (xs ++ x ∷ ys) ≡ xs ++ ys
without_middle xs ys x rising =
    let p : Pairs Before (xs ++ x ∷ ys) = pairs_from Before (xs ++ x ∷ ys) rising in
    filter-append (λ (row : Row). not (row.position == x.position)) xs (x ∷ ys)
    ∙ ap (λ zs. zs ++ without x.position (x ∷ ys))
    (kept_all x.position xs (each_to (λ (y : Row). y.position < x.position) (λ (y : Row). not (y.position == x.position) ≡ true) (λ y lt. differs_down x.position y.position lt) xs (front_of xs ys x p)))
    ∙ ap (λ zs. xs ++ zs) (without_first x ys (back_of xs ys x p))
