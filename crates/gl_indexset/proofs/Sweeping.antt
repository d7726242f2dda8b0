-- Which rows a set holds after a row was stored, and what a sweep leaves.
use Rattle.std.proofs.Common.{◌≡◌, ◌⊎◌, ⊎_elim, ℕ, zero, suc, ◌+◌, ◌<◌, ◌≤◌, ◌==◌, Bool, true, false, ◌&&◌, ◌||◌, cond, nat_le, List, [], ◌∷◌, ◌++◌, length, get_or, map, filter, take, drop, Option, Some, None, unwrap_or, refl, sym, ◌∙◌, ap, subst, arith}
use Rattle.std.specs.Prelude.{slice_set}
use Rattle.std.specs.List.{All, slice_get}
use Rattle.std.proofs.lemmas.Bool.Decides.{nat_tests}
use Rattle.std.proofs.lemmas.List.Elements.{All-head, All-tail}
use Rattle.std.proofs.lemmas.List.Edits.{map_over_more}
use Rattle.std.proofs.lemmas.Option.{get_or_from_slice_get}
use Rattle.gl_indexset.specs.declared.row.Row.{Row}
use Rattle.gl_indexset.specs.declared.set.Index.{Index}
use Rattle.gl_indexset.specs.Retention.{is_in}
use Rattle.gl_indexset.specs.Rising.{AreRising, AreBelow}
use Rattle.gl_indexset.specs.SetKept.{SetKept, begun, drop_if, is_index_full, one_more, rotated, stored, with_newest, oldest_after, oldest_of, starts_by, is_held_by, is_held, goes, IsLined, IsSetSound, IsReadyFor}

module _ {X : Type 0} (p : X → Bool) where
  stays_cons : (b : Bool) (x : X) (xs ys : List X) → b ≡ true → ys ≡ xs → cond b (x ∷ ys) ys ≡ x ∷ xs
  stays_cons true x xs ys passes so_far = ap (λ (l : List X). x ∷ l) so_far
  stays_cons false x xs ys passes so_far = cc passes

  pub filter_all : (xs : List X) → All (λ x. p x ≡ true) xs → filter p xs ≡ xs
  filter_all [] all = refl
  filter_all (x ∷ xs) all = stays_cons (p x) x xs (filter p xs) (All-head (λ y. p y ≡ true) x xs all) (filter_all xs (All-tail (λ y. p y ≡ true) x xs all))

  twice_cons : (q : X → Bool) (a b : Bool) (x : X) (xs ys : List X) → (a ≡ true → b ≡ true) → p x ≡ a → filter p xs ≡ ys
      → filter p (cond b (x ∷ xs) xs) ≡ cond a (x ∷ ys) ys
  twice_cons q true true x xs ys wide is so_far = stays_cons (p x) x ys (filter p xs) is so_far
  twice_cons q true false x xs ys wide is so_far = cc (wide refl)
  twice_cons q false true x xs ys wide is so_far = here (p x) is
    where
      here : (c : Bool) → c ≡ false → cond c (x ∷ filter p xs) (filter p xs) ≡ ys
      here true h = cc h
      here false h = so_far
  twice_cons q false false x xs ys wide is so_far = so_far

  -- a filter by a wider test before changes nothing
  pub filter_wider : (q : X → Bool) (xs : List X) → All (λ x. p x ≡ true → q x ≡ true) xs → filter p (filter q xs) ≡ filter p xs
  filter_wider q [] wide = refl
  filter_wider q (x ∷ xs) wide =
      twice_cons q (p x) (q x) x (filter q xs) (filter p xs) (All-head (λ y. p y ≡ true → q y ≡ true) x xs wide) refl
      (filter_wider q xs (All-tail (λ y. p y ≡ true → q y ≡ true) x xs wide))

not_yet : (b : Bool) (first p : ℕ) → p < first → starts_by (cond b None (Some first)) p ≡ true → ⊥
not_yet true first p lt h = cc h
not_yet false first p lt h = grind (arith, nat_tests)

still_kept : (a b k : Bool) (first p : ℕ) → b ≡ false → starts_by (cond (a || k) None (Some first)) p ≡ true → starts_by (cond (b || k) None (Some first)) p ≡ true
still_kept true b k first p none h = cc h
still_kept false true k first p none h = cc none
still_kept false false k first p none h = h

kept_by : (a k : Bool) (first p : ℕ) → a ≡ false → k ≡ false → nat_le first p ≡ true → starts_by (cond (a || k) None (Some first)) p ≡ true
kept_by true k first p a_is k_is h = cc a_is
kept_by false true first p a_is k_is h = cc k_is
kept_by false false first p a_is k_is h = h

-- what a row changes of a set, by cases
stored_by : (P : SetKept → Type 0) (a b : Bool) (position moment : ℕ) (set : SetKept)
    → (a ≡ true → P (with_newest (begun position moment) set))
    → (a ≡ false → b ≡ true → P (rotated (begun position moment) set))
    → (a ≡ false → b ≡ false → P (with_newest (one_more set.newest) set))
    → P (cond a (with_newest (begun position moment) set) (cond b (rotated (begun position moment) set) (with_newest (one_more set.newest) set)))
stored_by P true b position moment set first full more = first refl
stored_by P false true position moment set first full more = full refl refl
stored_by P false false position moment set first full more = more refl refl

module _ (position moment : ℕ) (set : SetKept) where
  pub by_cases : (P : SetKept → Type 0)
      → ((set.newest.rows == 0) ≡ true → P (with_newest (begun position moment) set))
      → ((set.newest.rows == 0) ≡ false → is_index_full set.rule set.newest moment ≡ true → P (rotated (begun position moment) set))
      → ((set.newest.rows == 0) ≡ false → is_index_full set.rule set.newest moment ≡ false → P (with_newest (one_more set.newest) set))
      → P (stored position moment set)
  by_cases P first full more = stored_by P (set.newest.rows == 0) (is_index_full set.rule set.newest moment) position moment set first full more

  pub rule_stays : (stored position moment set).rule ≡ set.rule
  rule_stays = by_cases (λ (s : SetKept). s.rule ≡ set.rule) (λ a. refl) (λ a b. refl) (λ a b. refl)

  -- a set holds no earlier row that it didn't hold before
  pub held_before : IsSetSound position set → (p : ℕ) → p < position
      → starts_by (oldest_of (stored position moment set)) p ≡ true → starts_by (oldest_of set) p ≡ true
  held_before sound p below = by_cases (λ (s : SetKept). starts_by (oldest_of s) p ≡ true → starts_by (oldest_of set) p ≡ true)
      (λ none. when_first set.rule.keep set.newest set.closed none)
      (λ some full. when_full set.rule.keep set.newest set.closed (nat_le set.rule.keep (length set.closed + 1)) refl some sound.lined)
      (λ some full. when_more set.rule.keep set.newest set.closed some)
    where
      when_first : (keep : ℕ) (newest : Index) (closed : List Index) → (newest.rows == 0) ≡ true
          → starts_by (oldest_after keep (begun position moment) closed) p ≡ true → starts_by (oldest_after keep newest closed) p ≡ true
      when_first keep newest [] none h = absurd (not_yet ((1 == 0) || (keep == 0)) position p below h)
      when_first keep newest (index ∷ closed) none h = h

      when_more : (keep : ℕ) (newest : Index) (closed : List Index) → (newest.rows == 0) ≡ false
          → starts_by (oldest_after keep (one_more newest) closed) p ≡ true → starts_by (oldest_after keep newest closed) p ≡ true
      when_more keep newest [] some h = still_kept ((newest.rows + 1) == 0) (newest.rows == 0) (keep == 0) newest.first p some h
      when_more keep newest (index ∷ closed) some h = h

      two_kept : (keep : ℕ) → nat_le keep (0 + 1) ≡ false → (keep == 0) ≡ false
      two_kept keep is = grind (arith, nat_tests)

      lower : (a b : ℕ) → a ≤ b → nat_le b p ≡ true → nat_le a p ≡ true
      lower a b le h = grind (arith, nat_tests)

      when_full : (keep : ℕ) (newest : Index) (closed : List Index) (b : Bool) → nat_le keep (length closed + 1) ≡ b → (newest.rows == 0) ≡ false → IsLined 0 closed newest.first
          → starts_by (oldest_after keep (begun position moment) (drop_if b (closed ++ newest ∷ []))) p ≡ true → starts_by (oldest_after keep newest closed) p ≡ true
      when_full keep newest [] true is some lined h = absurd (not_yet ((1 == 0) || (keep == 0)) position p below h)
      when_full keep newest [] false is some lined h = kept_by (newest.rows == 0) (keep == 0) newest.first p some (two_kept keep is) h
      when_full keep newest (index ∷ []) true is some lined h = lower index.first newest.first lined.1 h
      when_full keep newest (index ∷ (next ∷ closed)) true is some lined h = lower index.first next.first (lined.1.0) h
      when_full keep newest (index ∷ closed) false is some lined h = h

or_map : (a b c d : Bool) → (a ≡ true → c ≡ true) → (b ≡ true → d ≡ true) → (a || b) ≡ true → (c || d) ≡ true
or_map true b c d first rest h = here c (first refl)
  where
    here : (e : Bool) → e ≡ true → (e || d) ≡ true
    here true is = refl
    here false is = cc is
or_map false b c d first rest h = later c (rest h)
  where
    later : (e : Bool) → d ≡ true → (e || d) ≡ true
    later true is = refl
    later false is = is

and_map : (a b c : Bool) → (b ≡ true → c ≡ true) → (a && b) ≡ true → (a && c) ≡ true
and_map true b c gives h = gives h
and_map false b c gives h = h

-- by the set's rule, and where its first live row is
pub held_by_start : (row : Row) (s t : SetKept) → t.rule ≡ s.rule → (starts_by (oldest_of s) row.position ≡ true → starts_by (oldest_of t) row.position ≡ true)
    → is_held_by row s ≡ true → is_held_by row t ≡ true
held_by_start row s t rule gives h =
    ap (λ r. is_in r row && starts_by (oldest_of t) row.position) rule ∙ and_map (is_in s.rule row) (starts_by (oldest_of s) row.position) (starts_by (oldest_of t) row.position) gives h

some_of : {X : Type 0} (x y : X) → ◌≡◌ {A = Option X} (Some x) (Some y) → x ≡ y
some_of x y h = cc h

-- a change of one set
pub held_set : (row : Row) (sets : List SetKept) (at : ℕ) (s t : SetKept) → slice_get sets at ≡ Some s → (is_held_by row s ≡ true → is_held_by row t ≡ true)
    → is_held sets row ≡ true → is_held (slice_set sets at t) row ≡ true
held_set row [] at s t is gives h = cc h
held_set row (x ∷ sets) zero s t is gives h =
    or_map (is_held_by row x) (is_held sets row) (is_held_by row t) (is_held sets row) (λ e. gives (subst (λ (y : SetKept). is_held_by row y ≡ true) (some_of x s is) e)) (λ e. e) h
held_set row (x ∷ sets) (suc at) s t is gives h =
    or_map (is_held_by row x) (is_held sets row) (is_held_by row x) (is_held (slice_set sets at t) row) (λ e. e) (held_set row sets at s t is gives) h

pub held_unset : (row : Row) (sets : List SetKept) (at : ℕ) (s t : SetKept) → slice_get sets at ≡ Some s → (is_held_by row t ≡ true → is_held_by row s ≡ true)
    → is_held (slice_set sets at t) row ≡ true → is_held sets row ≡ true
held_unset row [] at s t is gives h = cc h
held_unset row (x ∷ sets) zero s t is gives h =
    or_map (is_held_by row t) (is_held sets row) (is_held_by row x) (is_held sets row) (λ e. subst (λ (y : SetKept). is_held_by row y ≡ true) (sym (some_of x s is)) (gives e)) (λ e. e) h
held_unset row (x ∷ sets) (suc at) s t is gives h =
    or_map (is_held_by row x) (is_held (slice_set sets at t) row) (is_held_by row x) (is_held sets row) (λ e. e) (held_unset row sets at s t is gives) h

-- before a loop's index nothing else changed
pub here_still : {X : Type 0} (f : X → X) (xs : List X) (i : ℕ) → slice_get (map f (take i xs) ++ drop i xs) i ≡ slice_get xs i
here_still f [] zero = refl
here_still f [] (suc i) = refl
here_still f (x ∷ xs) zero = refl
here_still f (x ∷ xs) (suc i) = here_still f xs i

pub set_here : {X : Type 0} (xs : List X) (i : ℕ) (x : X) → slice_get xs i ≡ Some x → slice_set xs i x ≡ xs
set_here [] i x is = cc is
set_here (y ∷ xs) zero x is = ap (λ z. z ∷ xs) (sym (some_of y x is))
set_here {X = X} (y ∷ xs) (suc i) x is = ap (λ (l : List X). y ∷ l) (set_here xs i x is)

below_or : (k m : ℕ) → k < m + 1 → (k < m) ⊎ (k ≡ m)
below_or k m lt = grind arith

above_or : (k m : ℕ) → m ≤ k → (m < k) ⊎ (k ≡ m)
above_or k m le = grind arith

-- rows in order of position, round one of them
module _ (rows : List Row) (n : ℕ) (row : Row) (rising : AreRising rows) (is : slice_get rows n ≡ Some row) (lt : n < length rows) where
  got : (d : Row) → get_or rows n d ≡ row
  got d = get_or_from_slice_get rows n row d is

  pub below_here : (position : ℕ) → row.position < position → (k : ℕ) (d : Row) → k < n + 1 → (get_or rows k d).position < position
  below_here position less k d small = ⊎_elim
      (λ (under : k < n). omega (arith, subst (λ (r : Row). (get_or rows k d).position < r.position) (got d) (rising k n d under lt), less))
      (λ (same : k ≡ n). subst (λ (j : ℕ). (get_or rows j d).position < position) (sym same) (subst (λ (r : Row). r.position < position) (sym (got d)) less))
      (below_or k n small)

  pub above_here : (to : ℕ) → to ≤ row.position → (k : ℕ) (d : Row) → n ≤ k → k < length rows → to ≤ (get_or rows k d).position
  above_here to le k d from within = ⊎_elim
      (λ (over : n < k). omega (arith, subst (λ (r : Row). r.position < (get_or rows k d).position) (got d) (rising n k d over within), le))
      (λ (same : k ≡ n). subst (λ (j : ℕ). to ≤ (get_or rows j d).position) (sym same) (subst (λ (r : Row). to ≤ r.position) (sym (got d)) le))
      (above_or k n from)

pub if_true : {X : Type 0} (b : Bool) (x y : X) → b ≡ true → ◌≡◌ {A = X} (cond b x y) x
if_true true x y h = refl
if_true false x y h = cc h

pub if_false : {X : Type 0} (b : Bool) (x y : X) → b ≡ false → ◌≡◌ {A = X} (cond b x y) y
if_false true x y h = cc h
if_false false x y h = refl

pub goes_in : (row : Row) (s : SetKept) → is_in s.rule row ≡ true → goes row s ≡ stored row.position row.moment s
goes_in row s h = if_true (is_in s.rule row) (stored row.position row.moment s) s h

pub goes_by : (row : Row) (s : SetKept) → is_in s.rule row ≡ false → goes row s ≡ s
goes_by row s h = if_false (is_in s.rule row) (stored row.position row.moment s) s h

pub one_set : (sets : List SetKept) (at : ℕ) (s t : SetKept) → slice_get sets at ≡ Some s → slice_get sets at ≡ Some t → s ≡ t
one_set sets at s t is so_is = some_of s t (sym is ∙ so_is)

none_starts : (o : Option ℕ) (p : ℕ) → o ≡ None → starts_by o p ≡ true → ⊥
none_starts o p none h = cc (sym (ap (λ (x : Option ℕ). starts_by x p) none) ∙ h)

from_first : (o : Option ℕ) (from p : ℕ) → o ≡ Some from → starts_by o p ≡ true → from ≤ p
from_first o from p some h = ends from p (sym (ap (λ (x : Option ℕ). starts_by x p) some) ∙ h)
  where
    ends : (a b : ℕ) → nat_le a b ≡ true → a ≤ b
    ends a b h = grind (arith, nat_tests)

reached : (o : Option ℕ) (to p most : ℕ) → to ≡ unwrap_or o most → to ≤ p → p < most → starts_by o p ≡ true
reached None to p most is le lt = absurd (omega arith)
reached (Some first) to p most is le lt = grind (arith, nat_tests)

-- one set was changed, and each row below a position was held
module _ (sets : List SetKept) (at : ℕ) (s t : SetKept) (rows : List Row) (position : ℕ)
    (is : slice_get sets at ≡ Some s) (rule : t.rule ≡ s.rule) (below : AreBelow position rows) (held : All (λ (row : Row). is_held sets row ≡ true) rows) where
  pub none_lost : ((p : ℕ) → p < position → starts_by (oldest_of s) p ≡ true → starts_by (oldest_of t) p ≡ true) → rows ≡ filter (is_held (slice_set sets at t)) rows
  none_lost gives = sym (filter_all (is_held (slice_set sets at t)) rows (λ k d lt.
      held_set (get_or rows k d) sets at s t is (held_by_start (get_or rows k d) s t rule (gives (get_or rows k d).position (below k d lt))) (held k d lt)))

  pub when_none : oldest_of s ≡ None → rows ≡ filter (is_held (slice_set sets at t)) rows
  when_none none = none_lost (λ p lt h. absurd (none_starts (oldest_of s) p none h))

  pub when_no_later : (from to most : ℕ) → oldest_of s ≡ Some from → to ≡ unwrap_or (oldest_of t) most → to ≤ from → position ≤ most
      → rows ≡ filter (is_held (slice_set sets at t)) rows
  when_no_later from to most some to_is le few = none_lost (λ p lt h. reached (oldest_of t) to p most to_is (omega (arith, from_first (oldest_of s) from p some h)) (omega arith))

  pub held_in_front : (from : ℕ) → oldest_of s ≡ Some from → All (λ (row : Row). row.position < from → is_held (slice_set sets at t) row ≡ true) rows
  held_in_front from some = λ k d lt front. held_set (get_or rows k d) sets at s t is
      (held_by_start (get_or rows k d) s t rule (λ h. absurd (omega (arith, from_first (oldest_of s) from (get_or rows k d).position some h, front)))) (held k d lt)

  pub held_behind : (to most : ℕ) → to ≡ unwrap_or (oldest_of t) most → position ≤ most → All (λ (row : Row). to ≤ row.position → is_held (slice_set sets at t) row ≡ true) rows
  held_behind to most to_is few = λ k d lt behind. held_set (get_or rows k d) sets at s t is
      (held_by_start (get_or rows k d) s t rule (λ h. reached (oldest_of t) to (get_or rows k d).position most to_is behind (omega (arith, below k d lt)))) (held k d lt)

-- the loop over the sets: those before the index were changed
module _ (row : Row) (init : List SetKept) (at : ℕ) (lt : at < length init) where
  pub ready_here : (sets : List SetKept) → sets ≡ map (goes row) (take at init) ++ drop at init → All (IsReadyFor row.position) init → (s : SetKept) → slice_get sets at ≡ Some s → IsReadyFor row.position s
  ready_here sets is ready s here =
      let at_is : slice_get init at ≡ Some s = sym (here_still (goes row) init at) ∙ ap (λ (l : List SetKept). slice_get l at) (sym is) ∙ here in
      subst (λ (x : SetKept). IsReadyFor row.position x) (get_or_from_slice_get init at s s at_is) (ready at s lt)

  pub one_more_set : (sets : List SetKept) (s : SetKept) → sets ≡ map (goes row) (take at init) ++ drop at init → slice_get sets at ≡ Some s
      → slice_set sets at (goes row s) ≡ map (goes row) (take (at + 1) init) ++ drop (at + 1) init
  one_more_set sets s is here = map_over_more (goes row) init sets at s lt is (sym (get_or_from_slice_get sets at s s here))

  pub filtered_more : (rows before : List Row) (sets : List SetKept) (s : SetKept) → AreBelow row.position before → slice_get sets at ≡ Some s → IsReadyFor row.position s
      → rows ≡ filter (is_held sets) before
      → filter (is_held (slice_set sets at (goes row s))) rows ≡ filter (is_held (slice_set sets at (goes row s))) before
  filtered_more rows before sets s below here ready is =
      ap (λ (l : List Row). filter (is_held (slice_set sets at (goes row s))) l) is
      ∙ filter_wider (is_held (slice_set sets at (goes row s))) (is_held sets) before (λ k d small.
      held_unset (get_or before k d) sets at s (goes row s) here (unheld (get_or before k d) (below k d small) (is_in s.rule row) refl))
    where
      unheld : (r : Row) → r.position < row.position → (b : Bool) → is_in s.rule row ≡ b → is_held_by r (goes row s) ≡ true → is_held_by r s ≡ true
      unheld r lower true taken h =
          held_by_start r (stored row.position row.moment s) s (sym (rule_stays row.position row.moment s)) (held_before row.position row.moment s ready.sound r.position lower)
          (ap (λ (x : SetKept). is_held_by r x) (sym (goes_in row s taken)) ∙ h)
      unheld r lower false taken h = ap (λ (x : SetKept). is_held_by r x) (sym (goes_by row s taken)) ∙ h

-- any value of the type
abbrev pub blank : SetKept
blank = record { rule = record { name = []; max_docs = 0; max_ms = 0; keep = 0 }; number = 0; newest = begun 0 0; closed = []; spare = 0 }
