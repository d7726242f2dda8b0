-- Which live rows leave when one more is stored.
use Rattle.std.proofs.Common.{◌≡◌, ◌⊎◌, ⊎_elim, ℕ, zero, suc, ◌+◌, ◌<◌, ◌≤◌, ◌==◌, Bool, true, false, ◌&&◌, ◌||◌, cond, nat_le, nat_lt, max, min, fold, List, [], ◌∷◌, ◌++◌, length, get_or, map, filter, Option, Some, None, refl, sym, ◌∙◌, ap, subst, arith}
use Rattle.std.specs.Prelude.{IfSome}
use Rattle.std.specs.List.{All, list_any, slice_get}
use Rattle.std.proofs.lemmas.Option.{get_or_from_slice_get}
use Rattle.gl_indexset.specs.declared.set.Index.{Index}
use Rattle.std.proofs.lemmas.Bool.Decides.{nat_tests}
use Rattle.gl_indexset.specs.declared.row.Row.{Row}
use Rattle.gl_fields.specs.declared.set_rule.SetRule.{SetRule}
use Rattle.gl_indexset.specs.Retention.{is_in, live_rows}
use Rattle.gl_indexset.specs.Rising.{AreRising}
use Rattle.gl_indexset.specs.SetKept.{SetKept, begun, drop_if, is_index_full, stored, oldest_after, oldest_of, starts_by, is_held_by, is_held, goes, first_lost}
use Rattle.gl_indexset.specs.Kept.{Kept, rules_of, IsSound, StandsFor}
use Rattle.gl_indexset.specs.Leaving.{has_position, IsNextFailing, IsNextLeaving}
use Rattle.gl_indexset.proofs.Numbering.{Each, each_map}
use Rattle.gl_indexset.proofs.Sweeping.{by_cases, held_by_start}
use Rattle.gl_indexset.proofs.Standing.{each_of, goes_rule, or_both}
use Rattle.gl_indexset.proofs.Storing.{below_row, live_now, rules_are}

-- a row below the first that is lost stays
not_lost : (before after : Option ℕ) (from limit position : ℕ) → from ≤ position → position < first_lost before after from limit → starts_by before position ≡ true → starts_by after position ≡ true
not_lost None after from limit position above below h = cc h
not_lost (Some before) None from limit position above below h = absurd (apart before from position below above h)
  where
    apart : (a b p : ℕ) → p < max a b → b ≤ p → nat_le a p ≡ true → ⊥
    apart a b p lt le h = grind (arith, nat_tests)
not_lost (Some before) (Some after) from limit position above below h = over (nat_lt (max before from) after) refl below
  where
    apart : (a b p : ℕ) → p < max a b → b ≤ p → nat_le a p ≡ true → ⊥
    apart a b p lt le h = grind (arith, nat_tests)

    reaches : (a b c p : ℕ) → nat_lt (max a b) c ≡ false → b ≤ p → nat_le a p ≡ true → nat_le c p ≡ true
    reaches a b c p lt le h = grind (arith, nat_tests)

    over : (b : Bool) → nat_lt (max before from) after ≡ b → position < cond b (max before from) limit → nat_le after position ≡ true
    over true is lt = absurd (apart before from position lt above h)
    over false is lt = reaches before from after position is above h

-- the first position that one of the sets loses
abbrev pub least_lost : Row → ℕ → ℕ → ℕ → List SetKept → ℕ
least_lost row from limit least sets = fold (λ (n : ℕ) (s : SetKept). min n (first_lost (oldest_of s) (oldest_of (goes row s)) from limit)) least sets

least_under : (row : Row) (from limit least : ℕ) (sets : List SetKept) → least_lost row from limit least sets ≤ least
least_under row from limit least [] = omega arith
least_under row from limit least (set ∷ sets) =
    omega (arith, least_under row from limit (min least (first_lost (oldest_of set) (oldest_of (goes row set)) from limit)) sets)

pub still_held : (row other : Row) (from limit least : ℕ) (sets : List SetKept) → from ≤ other.position → other.position < least_lost row from limit least sets
    → is_held sets other ≡ true → is_held (map (goes row) sets) other ≡ true
still_held row other from limit least [] above below h = h
still_held row other from limit least (set ∷ sets) above below h =
    let rest = min least (first_lost (oldest_of set) (oldest_of (goes row set)) from limit) in
    let low : other.position < first_lost (oldest_of set) (oldest_of (goes row set)) from limit = omega (arith, below, least_under row from limit rest sets) in
    or_both (is_held_by other set) (is_held sets other) (is_held_by other (goes row set)) (is_held (map (goes row) sets) other)
    (held_by_start other set (goes row set) (goes_rule row set) (not_lost (oldest_of set) (oldest_of (goes row set)) from limit other.position above low))
    (still_held row other from limit rest sets above below) h

pub held_after : (row other : Row) (sets : List SetKept) → list_any (λ (s : SetKept). is_held_by other (goes row s)) sets ≡ is_held (map (goes row) sets) other
held_after row other [] = refl
held_after row other (set ∷ sets) = ap (λ b. is_held_by other (goes row set) || b) (held_after row other sets)

-- a set takes a row after another as before
pub same_held : (row other : Row) (set : SetKept) → (is_in set.rule other && starts_by (oldest_of (goes row set)) other.position) ≡ is_held_by other (goes row set)
same_held row other set = ap (λ (r : SetRule). is_in r other && starts_by (oldest_of (goes row set)) other.position) (sym (goes_rule row set))

each_at : {X : Type 0} (P : X → Type 0) (xs : List X) → Each P xs → (k : ℕ) (d : X) → k < length xs → P (get_or xs k d)
each_at P [] e k d lt = absurd (omega arith)
each_at P (x ∷ xs) e zero d lt = e.0
each_at P (x ∷ xs) e (suc k) d lt = each_at P xs e.1 k d (omega arith)

-- positions rise, by cases on the list
abbrev pub Rises : List Row → Type 0
Rises [] = Unit {0}
Rises (row ∷ rows) = Each (λ (other : Row). row.position < other.position) rows × Rises rows

pub rises : (rows : List Row) → AreRising rows → Rises rows
rises [] rising = tt
rises (row ∷ rows) rising = (
  each_of (λ (other : Row). row.position < other.position) rows (λ k d lt. rising zero (suc k) d (omega arith) (omega arith)),
  rises rows (λ i j d less lt. rising (suc i) (suc j) d (omega arith) (omega arith)),
)

no_position : (position : ℕ) (rows : List Row) → Each (λ (row : Row). position < row.position) rows → has_position rows position ≡ false
no_position position [] e = refl
no_position position (row ∷ rows) e = both (row.position == position) (has_position rows position) (differs row.position e.0) (no_position position rows e.1)
  where
    both : (a b : Bool) → a ≡ false → b ≡ false → (a || b) ≡ false
    both true b h i = cc h
    both false b h i = i

    differs : (n : ℕ) → position < n → (n == position) ≡ false
    differs n lt = grind (arith, nat_tests)

each_joined : (P : Row → Type 0) (p : Row → Bool) (rows tail : List Row) → Each P rows → Each P tail → Each P (filter p rows ++ tail)
each_joined P p [] tail e f = f
each_joined P p (row ∷ rows) tail e f = over (p row) (each_joined P p rows tail e.1 f)
  where
    over : (b : Bool) → Each P (filter p rows ++ tail) → Each P (cond b (row ∷ filter p rows) (filter p rows) ++ tail)
    over true rest = (e.0, rest)
    over false rest = rest

-- of rows in order, those that pass a test are there, with others behind them all
module _ (p : Row → Bool) (tail : List Row) (top : ℕ) (above : Each (λ (row : Row). top ≤ row.position) tail) where
  there : (rows : List Row) → Rises rows → Each (λ (row : Row). row.position < top) rows → (k : ℕ) (d : Row) → k < length rows
      → has_position (filter p rows ++ tail) (get_or rows k d).position ≡ p (get_or rows k d)
  there [] rising below k d lt = absurd (omega arith)
  there (row ∷ rows) rising below zero d lt = over (p row) refl
    where
      over : (b : Bool) → p row ≡ b → has_position (cond b (row ∷ filter p rows) (filter p rows) ++ tail) row.position ≡ p row
      over true is = here (row.position == row.position) (same row.position) ∙ sym is
        where
          same : (n : ℕ) → (n == n) ≡ true
          same n = grind (arith, nat_tests)

          here : (b : Bool) → b ≡ true → (b || has_position (filter p rows ++ tail) row.position) ≡ true
          here true h = refl
          here false h = cc h
      over false is = no_position row.position (filter p rows ++ tail)
          (each_joined (λ (other : Row). row.position < other.position) p rows tail rising.0
          (each_map (λ (other : Row). top ≤ other.position) (λ (other : Row). row.position < other.position) (λ other le. omega (arith, le, below.0)) tail above)) ∙ sym is
  there (row ∷ rows) rising below (suc k) d lt = over (p row) (there rows rising.1 below.1 k d (omega arith))
    where
      other : Row
      other = get_or rows k d

      later : row.position < (get_or rows k d).position
      later = each_at (λ (o : Row). row.position < o.position) rows rising.0 k d (omega arith)

      over : (b : Bool) → has_position (filter p rows ++ tail) (get_or rows k d).position ≡ p (get_or rows k d)
          → has_position (cond b (row ∷ filter p rows) (filter p rows) ++ tail) (get_or rows k d).position ≡ p (get_or rows k d)
      over true rest = skip (row.position == (get_or rows k d).position) (differs row.position (get_or rows k d).position later) ∙ rest
        where
          differs : (m n : ℕ) → m < n → (m == n) ≡ false
          differs m n less = grind (arith, nat_tests)

          skip : (b : Bool) → b ≡ false → (b || has_position (filter p rows ++ tail) (get_or rows k d).position) ≡ has_position (filter p rows ++ tail) (get_or rows k d).position
          skip true h = cc h
          skip false h = refl
      over false rest = rest

module _ (kept : Kept) (row : Row) (sound : IsSound kept) (above : kept.next ≤ row.position) (all : List Row) (stands : StandsFor kept all) where
  abbrev pub after : List SetKept
  after = map (goes row) kept.sets

  abbrev pub last : List Row
  last = cond (is_held after row) (row ∷ []) []

  pub live_after : live_rows (rules_of kept) (row ∷ all) ≡ filter (is_held after) kept.rows ++ last
  live_after =
      let new : Kept = record { sets = after; rows = filter (is_held after) kept.rows ++ last; next = row.position + 1; room = kept.room } in
      ap (λ (l : List SetRule). live_rows l (row ∷ all)) (sym (rules_are kept row sound above new refl (is_held after row) refl refl refl))
      ∙ sym (live_now kept row sound above new refl (is_held after row) refl refl refl all stands)

  last_above : (b : Bool) → Each (λ (r : Row). row.position ≤ r.position) (cond b (row ∷ []) [])
  last_above true = (omega arith, tt)
  last_above false = tt

  pub tells : (k : ℕ) (d : Row) → k < length kept.rows → has_position (live_rows (rules_of kept) (row ∷ all)) (get_or kept.rows k d).position ≡ is_held after (get_or kept.rows k d)
  tells k d lt =
      ap (λ (l : List Row). has_position l (get_or kept.rows k d).position) live_after
      ∙ there (is_held after) last row.position (last_above (is_held after row)) kept.rows (rises kept.rows sound.rising)
      (each_of (λ (r : Row). r.position < row.position) kept.rows (below_row kept row sound above)) k d lt

  pub leaving : (from : ℕ) (found : Option ℕ) → IsNextFailing (is_held (map (goes row) kept.sets)) kept.rows from found
      → IsNextLeaving (live_rows (rules_of kept) all) (live_rows (rules_of kept) (row ∷ all)) from found
  leaving from found is = subst (λ (l : List Row). IsNextLeaving l (live_rows (rules_of kept) (row ∷ all)) from found) stands.live (over found is)
    where
      over : (o : Option ℕ) → IsNextFailing (is_held (map (goes row) kept.sets)) kept.rows from o → IsNextLeaving kept.rows (live_rows (rules_of kept) (row ∷ all)) from o
      over None h = λ k d le lt. tells k d lt ∙ h k d le lt
      over (Some n) h = (h.0, h.1, λ d. tells n d h.1 ∙ h.2 d, λ k d le lt. tells k d (omega (arith, lt, h.1)) ∙ h.3 k d le lt)

-- the one index behind the newest is dropped
pub newest_left : (position moment : ℕ) (set : SetKept) → (set.newest.rows == 0) ≡ false → is_index_full set.rule set.newest moment ≡ true → length set.closed ≡ 1
    → set.rule.keep ≤ length set.closed + 1 → oldest_of (stored position moment set) ≡ Some set.newest.first
newest_left position moment set some full one few = by_cases position moment set (λ (s : SetKept). oldest_of s ≡ Some set.newest.first)
    (λ none. absurd (apart (set.newest.rows == 0) some none))
    (λ have is. over set.closed one (nat_le set.rule.keep (length set.closed + 1)) (reaches set.rule.keep (length set.closed + 1) few))
    (λ have not_full. absurd (apart (is_index_full set.rule set.newest moment) not_full full))
  where
    apart : (b : Bool) → b ≡ false → b ≡ true → ⊥
    apart b h i = cc (sym h ∙ i)

    reaches : (a b : ℕ) → a ≤ b → nat_le a b ≡ true
    reaches a b le = grind (arith, nat_tests)

    over : (closed : List Index) → length closed ≡ 1 → (b : Bool) → b ≡ true → oldest_after set.rule.keep (begun position moment) (drop_if b (closed ++ set.newest ∷ [])) ≡ Some set.newest.first
    over [] is b h = absurd (omega (arith, is))
    over (index ∷ []) is true h = refl
    over (index ∷ closed) is false h = cc h
    over (index ∷ (next ∷ closed)) is true h = absurd (omega (arith, is))

three_ways : (k n : ℕ) → (k < n) ⊎ ((k ≡ n) ⊎ (n < k))
three_ways k n = grind arith

-- rows behind one that stays, up to the first that is lost, stay too
module _ (rows : List Row) (sets : List SetKept) (row other : Row) (n limit : ℕ) (rising : AreRising rows) (held : All (λ (r : Row). is_held sets r ≡ true) rows)
    (is : slice_get rows n ≡ Some other) (lt : n < length rows) (stays : is_held (map (goes row) sets) other ≡ true) where
  pub stay_on : (from next first more : ℕ) → next ≡ least_lost row other.position limit limit sets
      → ((k : ℕ) (d : Row) → k < first → (get_or rows k d).position < next) → more ≤ max first (n + 1)
      → ((k : ℕ) (d : Row) → from ≤ k → k < n → k < length rows → is_held (map (goes row) sets) (get_or rows k d) ≡ true)
      → (k : ℕ) (d : Row) → from ≤ k → k < more → k < length rows → is_held (map (goes row) sets) (get_or rows k d) ≡ true
  stay_on from next first more next_is before more_is so_far k d le less small = ⊎_elim
      (λ (low : k < n). so_far k d le low small)
      (λ (rest : (k ≡ n) ⊎ (n < k)). ⊎_elim
      (λ (same : k ≡ n). subst (λ (j : ℕ). is_held (map (goes row) sets) (get_or rows j d) ≡ true) (sym same) (ap (λ (r : Row). is_held (map (goes row) sets) r) got ∙ stays))
      (λ (high : n < k).
      let under : (get_or rows k d).position < next = before k d (omega (arith, high, less, more_is)) in
      still_held row (get_or rows k d) other.position limit limit sets (omega (arith, behind high)) (omega (arith, under, next_is)) (held k d small)) rest)
      (three_ways k n)
    where
      got : get_or rows n d ≡ other
      got = get_or_from_slice_get rows n other d is

      behind : n < k → other.position < (get_or rows k d).position
      behind high = subst (λ (r : Row). r.position < (get_or rows k d).position) got (rising n k d high small)

pub place_within : (passes : Row → Bool) (rows : List Row) (from : ℕ) (found : Option ℕ) → IsNextFailing passes rows from found → IfSome found (λ n. n < length rows)
place_within passes rows from None is = tt
place_within passes rows from (Some n) is = is.1
