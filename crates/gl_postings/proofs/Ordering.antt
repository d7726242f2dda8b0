-- The order of what a search finds.
use Rattle.std.proofs.Common.{◌≡◌, ◌⊎◌, inl, inr, ℕ, zero, suc, ◌<◌, Bool, true, false, cond, ℤ, List, [], ◌∷◌, length, get_or, filter, refl, sym, ◌∙◌, ap, subst, arith}
use Rattle.std.specs.Prelude.{int_le, ◌<ℤ◌, ◌≤ℤ◌}
use Rattle.std.specs.List.{AllPairs, Contains}
use Rattle.std.proofs.lemmas.Int.{ints, by_lt_z}
use Rattle.std.proofs.lemmas.List.Kept.{AllPairs-filter}
use Rattle.gl_indexset.specs.declared.row.Row.{Row}
use Rattle.gl_indexset.specs.Rising.{AreRising}
use Rattle.gl_query.specs.Tree.{Tree}
use Rattle.gl_pages.specs.declared.ask.Ask.{Ask}
use Rattle.gl_pages.specs.Pages.{finds, put_by, in_order, time_of}
use Rattle.gl_postings.specs.Found.{found}

-- What a list has, by cases on the list.

abbrev pub Has : {A : Type 0} → List A → A → Type 0
Has [] x = ⊥
Has (y ∷ ys) x = (y ≡ x) ⊎ Has ys x

has_at : {A : Type 0} (xs : List A) (x : A) (k : ℕ) → k < length xs → get_or xs k x ≡ x → Has xs x
has_at [] x k lt is = absurd (omega arith)
has_at (y ∷ ys) x zero lt is = inl is
has_at (y ∷ ys) x (suc k) lt is = inr (has_at ys x k (omega arith) is)

pub has_from : {A : Type 0} (xs : List A) (x : A) → Contains xs x → Has xs x
has_from xs x c = has_at xs x c.0 c.1 c.2

pub contains_from : {A : Type 0} (xs : List A) (x : A) → Has xs x → Contains xs x
contains_from [] x h = absurd h
contains_from (y ∷ ys) x (inl is) = (zero, omega arith, is)
contains_from (y ∷ ys) x (inr h) = later (contains_from ys x h)
  where
    later : Contains ys x → Contains (y ∷ ys) x
    later c = (suc c.0, omega (arith, c.1), c.2)

put_has : {A : Type 0} (number : A → ℤ) (x : A) (ys : List A) (z : A) → Has (put_by number x ys) z → (x ≡ z) ⊎ Has ys z
put_has number x [] z h = h
put_has number x (y ∷ ys) z h = over (int_le (number x) (number y)) h (put_has number x ys z)
  where
    later : (x ≡ z) ⊎ Has ys z → (x ≡ z) ⊎ Has (y ∷ ys) z
    later (inl is) = inl is
    later (inr i) = inr (inr i)

    behind : (y ≡ z) ⊎ Has (put_by number x ys) z → (Has (put_by number x ys) z → (x ≡ z) ⊎ Has ys z) → (x ≡ z) ⊎ Has (y ∷ ys) z
    behind (inl is) next = inr (inl is)
    behind (inr i) next = later (next i)

    over : (b : Bool) → Has (cond b (x ∷ (y ∷ ys)) (y ∷ put_by number x ys)) z → (Has (put_by number x ys) z → (x ≡ z) ⊎ Has ys z) → (x ≡ z) ⊎ Has (y ∷ ys) z
    over true i next = i
    over false i next = behind i next

has_put : {A : Type 0} (number : A → ℤ) (x : A) (ys : List A) (z : A) → (x ≡ z) ⊎ Has ys z → Has (put_by number x ys) z
has_put number x [] z h = h
has_put number x (y ∷ ys) z h = over (int_le (number x) (number y)) h (has_put number x ys z)
  where
    behind : (x ≡ z) ⊎ Has (y ∷ ys) z → ((x ≡ z) ⊎ Has ys z → Has (put_by number x ys) z) → (y ≡ z) ⊎ Has (put_by number x ys) z
    behind (inl is) next = inr (next (inl is))
    behind (inr (inl is)) next = inl is
    behind (inr (inr i)) next = inr (next (inr i))

    over : (b : Bool) → (x ≡ z) ⊎ Has (y ∷ ys) z → ((x ≡ z) ⊎ Has ys z → Has (put_by number x ys) z) → Has (cond b (x ∷ (y ∷ ys)) (y ∷ put_by number x ys)) z
    over true i next = i
    over false i next = behind i next

ordered_has : {A : Type 0} (number : A → ℤ) (xs : List A) (z : A) → Has (in_order number xs) z → Has xs z
ordered_has number [] z h = h
ordered_has number (x ∷ xs) z h = either (put_has number x (in_order number xs) z h) (ordered_has number xs z)
  where
    either : (x ≡ z) ⊎ Has (in_order number xs) z → (Has (in_order number xs) z → Has xs z) → Has (x ∷ xs) z
    either (inl is) next = inl is
    either (inr i) next = inr (next i)

has_ordered : {A : Type 0} (number : A → ℤ) (xs : List A) (z : A) → Has xs z → Has (in_order number xs) z
has_ordered number [] z h = h
has_ordered number (x ∷ xs) z h = has_put number x (in_order number xs) z (either h (has_ordered number xs z))
  where
    either : Has (x ∷ xs) z → (Has xs z → Has (in_order number xs) z) → (x ≡ z) ⊎ Has (in_order number xs) z
    either (inl is) next = inl is
    either (inr i) next = inr (next i)

filter_has : {A : Type 0} (test : A → Bool) (xs : List A) (z : A) → Has (filter test xs) z → Has xs z × (test z ≡ true)
filter_has test [] z h = absurd h
filter_has {A} test (x ∷ xs) z h = over (test x) refl h (filter_has test xs z)
  where
    later : Has xs z × (test z ≡ true) → Has (x ∷ xs) z × (test z ≡ true)
    later p = (inr p.0, p.1)

    first : test x ≡ true → (x ≡ z) ⊎ Has (filter test xs) z → (Has (filter test xs) z → Has xs z × (test z ≡ true)) → Has (x ∷ xs) z × (test z ≡ true)
    first t (inl is) next = (inl is, subst (λ (y : A). test y ≡ true) is t)
    first t (inr i) next = later (next i)

    over : (b : Bool) → test x ≡ b → Has (cond b (x ∷ filter test xs) (filter test xs)) z → (Has (filter test xs) z → Has xs z × (test z ≡ true)) → Has (x ∷ xs) z × (test z ≡ true)
    over true t i next = first t i next
    over false t i next = later (next i)

has_filter : {A : Type 0} (test : A → Bool) (xs : List A) (z : A) → test z ≡ true → Has xs z → Has (filter test xs) z
has_filter test [] z t h = absurd h
has_filter {A} test (x ∷ xs) z t h = over (test x) refl h (has_filter test xs z t)
  where
    found_later : (b : Bool) → Has (filter test xs) z → Has (cond b (x ∷ filter test xs) (filter test xs)) z
    found_later true i = inr i
    found_later false i = i

    first : (b : Bool) → test x ≡ b → x ≡ z → Has (cond b (x ∷ filter test xs) (filter test xs)) z
    first true p is = inl is
    first false p is = let q : test x ≡ true = subst (λ (y : A). test y ≡ true) (sym is) t in cc (p, q)

    over : (b : Bool) → test x ≡ b → Has (x ∷ xs) z → (Has xs z → Has (filter test xs) z) → Has (cond b (x ∷ filter test xs) (filter test xs)) z
    over b p (inl is) next = first b p is
    over b p (inr i) next = found_later b (next i)

pub those_found : (ask : Ask) (query : Tree) (rows : List Row) (row : Row) → Contains (found ask query rows) row → Contains rows row × (finds ask query row.streams row.fields ≡ true)
those_found ask query rows row c =
    let h : Has rows row × (finds ask query row.streams row.fields ≡ true)
    = filter_has (λ (r : Row). finds ask query r.streams r.fields) rows row
    (ordered_has (λ (r : Row). time_of r.fields) (filter (λ (r : Row). finds ask query r.streams r.fields) rows) row (has_from (found ask query rows) row c)) in
    (contains_from rows row h.0, h.1)

pub found_those : (ask : Ask) (query : Tree) (rows : List Row) (row : Row) → Contains rows row × (finds ask query row.streams row.fields ≡ true) → Contains (found ask query rows) row
found_those ask query rows row h =
    contains_from (found ask query rows) row
    (has_ordered (λ (r : Row). time_of r.fields) (filter (λ (r : Row). finds ask query r.streams r.fields) rows) row
    (has_filter (λ (r : Row). finds ask query r.streams r.fields) rows row h.1 (has_from rows row h.0)))

-- Each two of a list, by cases on the list.

abbrev pub Each : {A : Type 0} → (A → Type 0) → List A → Type 0
Each P [] = Unit {0}
Each P (x ∷ xs) = P x × Each P xs

abbrev pub Pairs : {A : Type 0} → (A → A → Type 0) → List A → Type 0
Pairs R [] = Unit {0}
Pairs R (x ∷ xs) = Each (R x) xs × Pairs R xs

pub each_at : {A : Type 0} (P : A → Type 0) (xs : List A) → Each P xs → (k : ℕ) (d : A) → k < length xs → P (get_or xs k d)
each_at P [] e k d lt = absurd (omega arith)
each_at P (x ∷ xs) e zero d lt = e.0
each_at P (x ∷ xs) e (suc k) d lt = each_at P xs e.1 k d (omega arith)

pub each_from : {A : Type 0} (P : A → Type 0) (xs : List A) → ((k : ℕ) (d : A) → k < length xs → P (get_or xs k d)) → Each P xs
each_from P [] h = tt
each_from P (x ∷ xs) h = (h zero x (omega arith), each_from P xs (λ k d lt. h (suc k) d (omega arith)))

pub each_both : {A : Type 0} (P Q R : A → Type 0) → ((x : A) → P x → Q x → R x) → (xs : List A) → Each P xs → Each Q xs → Each R xs
each_both P Q R f [] p q = tt
each_both P Q R f (x ∷ xs) p q = (f x p.0 q.0, each_both P Q R f xs p.1 q.1)

pub all_pairs : {A : Type 0} (R : A → A → Type 0) (xs : List A) → Pairs R xs → AllPairs R xs
all_pairs R [] p i j d less lt = absurd (omega arith)
all_pairs R (x ∷ xs) p zero zero d less lt = absurd (omega arith)
all_pairs R (x ∷ xs) p zero (suc j) d less lt = each_at (R x) xs p.0 j d (omega arith)
all_pairs R (x ∷ xs) p (suc i) zero d less lt = absurd (omega arith)
all_pairs R (x ∷ xs) p (suc i) (suc j) d less lt = all_pairs R xs p.1 i j d (omega arith) (omega arith)

pub pairs_from : {A : Type 0} (R : A → A → Type 0) (xs : List A) → AllPairs R xs → Pairs R xs
pairs_from R [] h = tt
pairs_from R (x ∷ xs) h = (
  each_from (R x) xs (λ k d lt. h zero (suc k) d (omega arith) (omega arith)),
  pairs_from R xs (λ i j d less lt. h (suc i) (suc j) d (omega arith) (omega arith)),
)

each_put : {A : Type 0} (number : A → ℤ) (P : A → Type 0) (x : A) (ys : List A) → P x → Each P ys → Each P (put_by number x ys)
each_put number P x [] p e = (p, tt)
each_put number P x (y ∷ ys) p e = over (int_le (number x) (number y)) (each_put number P x ys p e.1)
  where
    over : (b : Bool) → Each P (put_by number x ys) → Each P (cond b (x ∷ (y ∷ ys)) (y ∷ put_by number x ys))
    over true rest = (p, e)
    over false rest = (e.0, rest)

each_in_order : {A : Type 0} (number : A → ℤ) (P : A → Type 0) (xs : List A) → Each P xs → Each P (in_order number xs)
each_in_order number P [] e = tt
each_in_order number P (x ∷ xs) e = each_put number P x (in_order number xs) e.0 (each_in_order number P xs e.1)

-- By time and then by position.

abbrev pub Comes : Row → Row → Type 0
Comes a b = (time_of a.fields <ℤ time_of b.fields) ⊎ ((time_of a.fields ≡ time_of b.fields) × (a.position < b.position))

abbrev pub time : Row → ℤ
time row = time_of row.fields

not_after : (a b : ℤ) → int_le a b ≡ true → (a <ℤ b) ⊎ (a ≡ b)
not_after a b h = by_lt_z a b (λ lt. inl lt) (λ le. inr (same a b h le))
  where
    same : (a b : ℤ) → int_le a b ≡ true → b ≤ℤ a → a ≡ b
    same a b h k = grind (arith, ints)

after : (a b : ℤ) → int_le a b ≡ false → b <ℤ a
after a b h = grind (arith, ints)

le_lt : (a b c : ℤ) → int_le a b ≡ true → b <ℤ c → a <ℤ c
le_lt a b c h k = grind (arith, ints)

comes_by : (a b : Row) → int_le (time a) (time b) ≡ true → a.position < b.position → Comes a b
comes_by a b le lt = over (not_after (time a) (time b) le)
  where
    over : (time a <ℤ time b) ⊎ (time a ≡ time b) → Comes a b
    over (inl less) = inl less
    over (inr is) = inr (is, lt)

comes_on : (a b c : Row) → int_le (time a) (time b) ≡ true → a.position < c.position → Comes b c → Comes a c
comes_on a b c le lt (inl less) = inl (le_lt (time a) (time b) (time c) le less)
comes_on a b c le lt (inr both) = comes_by a c (subst (λ (n : ℤ). int_le (time a) n ≡ true) both.0 le) lt

pairs_put : (x : Row) (ys : List Row) → Each (λ (y : Row). x.position < y.position) ys → Pairs Comes ys → Pairs Comes (put_by time x ys)
pairs_put x [] e p = (tt, tt)
pairs_put x (y ∷ ys) e p = over (int_le (time x) (time y)) refl (pairs_put x ys e.1 p.1)
  where
    over : (b : Bool) → int_le (time x) (time y) ≡ b → Pairs Comes (put_by time x ys) → Pairs Comes (cond b (x ∷ (y ∷ ys)) (y ∷ put_by time x ys))
    over true is rest = (
      (
        comes_by x y is e.0,
        each_both (λ (w : Row). x.position < w.position) (Comes y) (Comes x) (λ (w : Row) lt c. comes_on x y w is lt c) ys e.1 p.0,
      ),
      p,
    )
    over false is rest = (each_put time (Comes y) x ys (inl (after (time x) (time y) is)) p.0, rest)

pairs_ordered : (rows : List Row) → Pairs (λ (a b : Row). a.position < b.position) rows → Pairs Comes (in_order time rows)
pairs_ordered [] p = tt
pairs_ordered (row ∷ rows) p = pairs_put row (in_order time rows) (each_in_order time (λ (y : Row). row.position < y.position) rows p.0) (pairs_ordered rows p.1)

pub come_in_order : (ask : Ask) (query : Tree) (rows : List Row) → AreRising rows → AllPairs Comes (found ask query rows)
come_in_order ask query rows rising =
    all_pairs Comes (found ask query rows)
    (pairs_ordered (filter (λ (r : Row). finds ask query r.streams r.fields) rows)
    (pairs_from (λ (a b : Row). a.position < b.position) (filter (λ (r : Row). finds ask query r.streams r.fields) rows)
    (AllPairs-filter (λ (a b : Row). a.position < b.position) (λ (r : Row). finds ask query r.streams r.fields) rows rising)))
