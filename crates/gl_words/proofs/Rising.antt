-- Positions in rising order: one more behind them, and one less.
use Rattle.std.proofs.Common.{◌≡◌, ◌⊎◌, ⊎_elim, ℕ, zero, suc, ◌+◌, ◌<◌, ◌≤◌, ◌==◌, Bool, true, false, cond, not, nat_lt, ◌&&◌, List, [], ◌∷◌, ◌++◌, length, get_or, take, drop, drop-drop, filter, remove, refl, sym, ap, ◌∙◌, arith}
use Rattle.std.proofs.Common.{Some, Ok, Err, slice_get, ◌-◌, nat_cmp}
use Rattle.std.specs.List.{list_all}
use Rattle.std.specs.List.Sorted.{IsBinarySearchResult}
use Rattle.std.proofs.lemmas.List.Sorted.{searched}
use Rattle.std.proofs.lemmas.Option.{get_or_from_slice_get}
use Rattle.std.proofs.lemmas.Bool.{and_parts, and_from, and_right, cases_lt}
use Rattle.std.proofs.lemmas.Bool.Decides.{nat_tests}
use Rattle.gl_words.specs.Positions.{AreFrom, with_position, without_position}

is_below : (a b : ℕ) → nat_lt a b ≡ true → a < b
is_below a b h = grind (arith, nat_tests)

tests_below : (a b : ℕ) → a < b → nat_lt a b ≡ true
tests_below a b h = grind (arith, nat_tests)

differs : (a b : ℕ) → (a ≡ b → ⊥) → (a == b) ≡ false
differs a b h = grind (arith, nat_tests)

same : (a b : ℕ) → a ≡ b → (a == b) ≡ true
same a b h = grind (arith, nat_tests)

pub lower : (a b : ℕ) (ps : List ℕ) → a ≤ b → AreFrom b ps → AreFrom a ps
lower a b [] le h = tt
lower a b (p ∷ ps) le h = (omega (arith, le, h.0), h.1)

at_least : (low n d : ℕ) (ps : List ℕ) → AreFrom low ps → n < length ps → low ≤ get_or ps n d
at_least low n d [] h lt = absurd (omega arith)
at_least low zero d (p ∷ ps) h lt = h.0
at_least low (suc n) d (p ∷ ps) h lt = omega (arith, h.0, at_least (p + 1) n d ps h.1 (omega (arith, lt)))

pub climbs : (low : ℕ) (ps : List ℕ) → AreFrom low ps → (i j : ℕ) → i ≤ j → j < length ps → get_or ps i 0 ≤ get_or ps j 0
climbs low [] h i j le lt = absurd (omega arith)
climbs low (p ∷ ps) h zero zero le lt = omega arith
climbs low (p ∷ ps) h zero (suc j) le lt = omega (arith, at_least (p + 1) j 0 ps h.1 (omega (arith, lt)))
climbs low (p ∷ ps) h (suc i) zero le lt = absurd (omega arith)
climbs low (p ∷ ps) h (suc i) (suc j) le lt = climbs (p + 1) ps h.1 i j (omega (arith, le)) (omega (arith, lt))

-- ---- one more behind them
pub rising_push : (low position : ℕ) (ps : List ℕ) → low ≤ position → AreFrom low ps → list_all (λ p. nat_lt p position) ps ≡ true → AreFrom low (ps ++ position ∷ [])
rising_push low position [] le h all = (le, tt)
rising_push low position (p ∷ ps) le h all =
    let parts = and_parts (nat_lt p position) (list_all (λ q. nat_lt q position) ps) all in
    let lt : p < position = is_below p position parts.0 in
    (h.0, rising_push (p + 1) position ps (omega (arith, lt)) h.1 parts.1)

-- the last of them decides whether a position is above all
pub last_decides : (low n d position : ℕ) (ps : List ℕ) → AreFrom low ps → length ps ≡ n + 1 → nat_lt (get_or ps n d) position ≡ list_all (λ p. nat_lt p position) ps
last_decides low n d position [] h len = absurd (omega (arith, len))
last_decides low zero d position (p ∷ []) h len = only (nat_lt p position)
  where
    only : (b : Bool) → b ≡ (b && true)
    only true = refl
    only false = refl
last_decides low (suc n) d position (p ∷ []) h len = absurd (omega (arith, len))
last_decides low zero d position (p ∷ q ∷ ps) h len = absurd (omega (arith, len))
last_decides low (suc n) d position (p ∷ q ∷ ps) h len =
    step (nat_lt (get_or (q ∷ ps) n d) position) (list_all (λ p. nat_lt p position) (q ∷ ps))
    (λ all. (and_parts (nat_lt q position) (list_all (λ p. nat_lt p position) ps) all).0)
    (last_decides (p + 1) n d position (q ∷ ps) h.1 (omega (arith, len)))
  where
    step : (a b : Bool) → (b ≡ true → nat_lt q position ≡ true) → a ≡ b → a ≡ (nat_lt p position && b)
    step a true above e =
        let lt : q < position = is_below q position (above refl) in
        let less : p < position = omega (arith, h.1.0, lt) in
        e ∙ sym (and_from (nat_lt p position) true (tests_below p position less) refl)
    step a false above e = e ∙ sym (and_right (nat_lt p position) false refl)

pub above_by_last : (position last : ℕ) (ps : List ℕ) → slice_get ps (length ps - 1) ≡ Some last → AreFrom 0 ps → nat_lt last position ≡ list_all (λ p. nat_lt p position) ps
above_by_last position last [] at h = cc at
above_by_last position last (p ∷ ps) at h =
    let len : length (p ∷ ps) - 1 ≡ length ps = omega arith in
    let is : get_or (p ∷ ps) (length ps) p ≡ last = ap (λ n. get_or (p ∷ ps) n p) (sym len) ∙ get_or_from_slice_get (p ∷ ps) (length (p ∷ ps) - 1) last p at in
    ap (λ n. nat_lt n position) (sym is) ∙ last_decides 0 (length ps) p position (p ∷ ps) h (omega arith)

-- ---- one less
kept_first : (p : ℕ) (b : Bool) (xs ys : List ℕ) → b ≡ false → xs ≡ ys → cond (not b) (p ∷ xs) xs ≡ p ∷ ys
kept_first p true xs ys h e = cc h
kept_first p false xs ys h e = ap (λ (l : List ℕ). p ∷ l) e

gone_first : (p : ℕ) (b : Bool) (xs ys : List ℕ) → b ≡ true → xs ≡ ys → cond (not b) (p ∷ xs) xs ≡ ys
gone_first p true xs ys h e = e
gone_first p false xs ys h e = cc h

pub absent : (position : ℕ) (ps : List ℕ) → ((k : ℕ) → k < length ps → get_or ps k 0 ≡ position → ⊥) → without_position position ps ≡ ps
absent position [] apart = refl
absent position (p ∷ ps) apart =
    kept_first p (p == position) (without_position position ps) ps (differs p position (apart zero (omega arith)))
    (absent position ps (λ k lt. apart (suc k) (omega (arith, lt))))

absent_below : (low position : ℕ) (ps : List ℕ) → AreFrom low ps → position < low → without_position position ps ≡ ps
absent_below low position ps h lt = absent position ps (λ k less is. absurd (omega (arith, at_least low k 0 ps h less, is, lt)))

pub removed : (low n position : ℕ) (ps : List ℕ) → AreFrom low ps → n < length ps → get_or ps n 0 ≡ position → remove ps n ≡ without_position position ps
removed low n position [] h lt is = absurd (omega arith)
removed low zero position (p ∷ ps) h lt is =
    sym (gone_first p (p == position) (without_position position ps) ps (same p position is) (absent_below (p + 1) position ps h.1 (omega (arith, is))))
removed low (suc n) position (p ∷ ps) h lt is =
    let less : p < position = omega (arith, at_least (p + 1) n 0 ps h.1 (omega (arith, lt)), is) in
    sym (kept_first p (p == position) (without_position position ps) (remove ps n) (differs p position (λ e. absurd (omega (arith, less, e))))
    (sym (removed (p + 1) n position ps h.1 (omega (arith, lt)) is)))

pub rising_without : (low position : ℕ) (ps : List ℕ) → AreFrom low ps → AreFrom low (without_position position ps)
rising_without low position [] h = tt
rising_without low position (p ∷ ps) h = over (p == position) (rising_without (p + 1) position ps h.1)
  where
    over : (b : Bool) → AreFrom (p + 1) (without_position position ps) → AreFrom low (cond (not b) (p ∷ without_position position ps) (without_position position ps))
    over true rest = lower low (p + 1) (without_position position ps) (omega (arith, h.0)) rest
    over false rest = (h.0, rest)

pub drop_remove : (gone n m : ℕ) (xs : List ℕ) → m ≡ gone + n → m < length xs → drop gone (remove xs m) ≡ remove (drop gone xs) n
drop_remove zero n m xs e lt =
    let is : m ≡ n = omega (arith, e) in
    ap (λ k. remove xs k) is
drop_remove (suc gone) n m [] e lt = absurd (omega arith)
drop_remove (suc gone) n zero (x ∷ xs) e lt = absurd (omega (arith, e))
drop_remove (suc gone) n (suc m) (x ∷ xs) e lt = drop_remove gone n m xs (omega (arith, e)) (omega (arith, lt))

pub drop_first : (gone : ℕ) (xs : List ℕ) → drop (gone + 1) xs ≡ remove (drop gone xs) 0
drop_first gone xs = sym (drop-drop 1 gone xs)

-- ---- what a search says
pub not_found : (position i : ℕ) (ps : List ℕ) → AreFrom 0 ps → IsBinarySearchResult (λ y. nat_cmp y position) ps (Err i) → without_position position ps ≡ ps
not_found position i ps h found = absent position ps (λ k lt is.
    let s = searched ps position (Err i) found (climbs 0 ps h) in
    ⊎_elim (λ (low : k < i). absurd (omega (arith, s.1 k low, is))) (λ (high : i ≤ k). absurd (omega (arith, s.2 k high lt, is))) (cases_lt k i))

pub found_removed : (position i : ℕ) (ps : List ℕ) → AreFrom 0 ps → IsBinarySearchResult (λ y. nat_cmp y position) ps (Ok i) → remove ps i ≡ without_position position ps
found_removed position i ps h found =
    let s = searched ps position (Ok i) found (climbs 0 ps h) in
    removed 0 i position ps h s.0 s.1
