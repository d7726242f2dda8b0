-- Which rows are live once one more is stored, and how those that leave are taken out one after another.
use Rattle.std.proofs.Common.{◌≡◌, ◌⊎◌, ⊎_elim, ℕ, zero, suc, ◌+◌, ◌<◌, ◌≤◌, ◌==◌, Bool, true, false, not, ◌&&◌, ◌||◌, cond, nat_lt, List, [], ◌∷◌, ◌++◌, length, get_or, map, filter, take, drop, Option, Some, None, refl, sym, ◌∙◌, ap, subst, arith}
use Rattle.std.specs.List.{list_any}
use Rattle.std.proofs.lemmas.Bool.Decides.{nat_tests}
use Rattle.gl_indexset.specs.declared.row.Row.{Row}
use Rattle.gl_fields.specs.declared.set_rule.SetRule.{SetRule}
use Rattle.gl_indexset.specs.Retention.{is_in, rows_of, numbered, numbers_of, number_after, newest_number, is_live_in, live_rows}
use Rattle.gl_indexset.specs.Rising.{AreRising}
use Rattle.gl_indexset.specs.SetKept.{SetKept, is_held, goes}
use Rattle.gl_indexset.specs.Kept.{Kept, rules_of, IsSound, StandsFor}
use Rattle.gl_indexset.specs.Leaving.{has_position, staying, is_filed, without, left_below, IsGoneOn, IsNextLeaving, IsStepOfLeaving}
use Rattle.gl_indexset.proofs.Sweeping.{if_true, if_false}
use Rattle.gl_indexset.proofs.Numbering.{Each}
use Rattle.gl_indexset.proofs.Storing.{held_is, live_now, rules_are}
use Rattle.gl_indexset.proofs.Departing.{Rises, rises, live_after, tells}

-- a new row is live in the sets that it names and that keep indexes
filed_in : (row : Row) (all : List Row) (rule : SetRule) → is_live_in (row ∷ all) all row rule ≡ (is_in rule row && not (rule.keep == 0))
filed_in row all rule = over (is_in rule row)
  where
    ahead : (n k : ℕ) → nat_lt n (n + k) ≡ not (k == 0)
    ahead n k = grind (arith, nat_tests)

    over : (b : Bool) → (b && nat_lt (newest_number (numbered rule (cond b (row ∷ rows_of rule all) (rows_of rule all)))) (number_after rule (numbers_of rule all) row.moment + rule.keep)) ≡ (b && not (rule.keep == 0))
    over true = ahead (number_after rule (numbers_of rule all) row.moment) rule.keep
    over false = refl

pub filed : (row : Row) (all : List Row) (rules : List SetRule) → list_any (is_live_in (row ∷ all) all row) rules ≡ is_filed rules row
filed row all [] = refl
filed row all (rule ∷ rules) =
    ap (λ b. b || list_any (is_live_in (row ∷ all) all row) rules) (filed_in row all rule) ∙ ap (λ b. (is_in rule row && not (rule.keep == 0)) || b) (filed row all rules)

filter_by_place : (p q : Row → Bool) (rows : List Row) → ((k : ℕ) (d : Row) → k < length rows → q (get_or rows k d) ≡ p (get_or rows k d)) → filter p rows ≡ filter q rows
filter_by_place p q [] same = refl
filter_by_place p q (row ∷ rows) same =
    ap (λ b. cond b (row ∷ filter p rows) (filter p rows)) (sym (same zero row (omega arith)))
    ∙ ap (λ (l : List Row). cond (q row) (row ∷ l) l) (filter_by_place p q rows (λ k d lt. same (suc k) d (omega (arith, lt))))

module _ (kept : Kept) (row : Row) (sound : IsSound kept) (above : kept.next ≤ row.position) (all : List Row) (stands : StandsFor kept all) where
  abbrev now : Kept
  now = record { sets = map (goes row) kept.sets; rows = filter (is_held (map (goes row) kept.sets)) kept.rows ++ cond (is_held (map (goes row) kept.sets) row) (row ∷ []) []; next = row.position + 1; room = kept.room }

  is_new : is_held (map (goes row) kept.sets) row ≡ is_filed (rules_of kept) row
  is_new = held_is kept row sound above now refl (is_held (map (goes row) kept.sets) row) refl refl refl all stands
      ∙ filed row all (rules_of now)
      ∙ ap (λ (l : List SetRule). is_filed l row) (rules_are kept row sound above now refl (is_held (map (goes row) kept.sets) row) refl refl refl)

  pub gone_on : IsGoneOn (rules_of kept) row (live_rows (rules_of kept) all) (live_rows (rules_of kept) (row ∷ all))
  gone_on =
      live_after kept row sound above all stands
      ∙ ap (λ (l : List Row). l ++ cond (is_held (map (goes row) kept.sets) row) (row ∷ []) [])
      (filter_by_place (is_held (map (goes row) kept.sets)) (λ r. has_position (live_rows (rules_of kept) (row ∷ all)) r.position) kept.rows (tells kept row sound above all stands)
      ∙ ap (λ (l : List Row). staying (live_rows (rules_of kept) (row ∷ all)) l) stands.live)
      ∙ ap (λ b. staying (live_rows (rules_of kept) (row ∷ all)) (live_rows (rules_of kept) all) ++ cond b (row ∷ []) []) is_new

-- taking out what leaves
apart : (m n : ℕ) → m < n → (m == n) ≡ false
apart m n lt = grind (arith, nat_tests)

apart_too : (m n : ℕ) → m < n → (n == m) ≡ false
apart_too m n lt = grind (arith, nat_tests)

same : (n : ℕ) → (n == n) ≡ true
same n = grind (arith, nat_tests)

no_other : (position : ℕ) (rows : List Row) → Each (λ (row : Row). position < row.position) rows → without position rows ≡ rows
no_other position [] e = refl
no_other position (row ∷ rows) e =
    if_true (not (row.position == position)) (row ∷ without position rows) (without position rows) (ap not (apart_too position row.position e.0))
    ∙ ap (λ (l : List Row). row ∷ l) (no_other position rows e.1)

each_at : {X : Type 0} (P : X → Type 0) (xs : List X) → Each P xs → (k : ℕ) (d : X) → k < length xs → P (get_or xs k d)
each_at P [] e k d lt = absurd (omega (arith, lt))
each_at P (x ∷ xs) e zero d lt = e.0
each_at P (x ∷ xs) e (suc k) d lt = each_at P xs e.1 k d (omega (arith, lt))

module _ (p : Row → Bool) where
  abbrev left : List Row → ℕ → List Row
  left rows n = filter p (take n rows) ++ drop n rows

  step_here : (row : Row) (rows : List Row) (m n : ℕ) → left rows m ≡ left rows n → left (row ∷ rows) (suc m) ≡ left (row ∷ rows) (suc n)
  step_here row rows m n rest = over (p row)
    where
      over : (b : Bool) → (cond b (row ∷ filter p (take m rows)) (filter p (take m rows)) ++ drop m rows) ≡ (cond b (row ∷ filter p (take n rows)) (filter p (take n rows)) ++ drop n rows)
      over true = ap (λ (l : List Row). row ∷ l) rest
      over false = rest

  between : (rows : List Row) (from n : ℕ) → from ≤ n → ((k : ℕ) (d : Row) → from ≤ k → k < n → k < length rows → p (get_or rows k d) ≡ true) → left rows from ≡ left rows n
  between [] zero zero le passes = refl
  between [] zero (suc n) le passes = refl
  between [] (suc from) zero le passes = absurd (omega (arith, le))
  between [] (suc from) (suc n) le passes = refl
  between (row ∷ rows) zero zero le passes = refl
  between (row ∷ rows) zero (suc n) le passes =
      ap (λ (l : List Row). row ∷ l) (between rows zero n (omega arith) (λ k d low high lt. passes (suc k) d (omega arith) (omega (arith, high)) (omega (arith, lt))))
      ∙ sym (ap (λ b. cond b (row ∷ filter p (take n rows)) (filter p (take n rows)) ++ drop n rows) (passes zero row (omega arith) (omega arith) (omega arith)))
  between (row ∷ rows) (suc from) zero le passes = absurd (omega (arith, le))
  between (row ∷ rows) (suc from) (suc n) le passes =
      step_here row rows from n (between rows from n (omega (arith, le)) (λ k d low high lt. passes (suc k) d (omega (arith, low)) (omega (arith, high)) (omega (arith, lt))))

  at_end : (rows : List Row) → left rows (length rows) ≡ filter p rows
  at_end [] = refl
  at_end (row ∷ rows) = over (p row) (at_end rows)
    where
      over : (b : Bool) → left rows (length rows) ≡ filter p rows → (cond b (row ∷ filter p (take (length rows) rows)) (filter p (take (length rows) rows)) ++ drop (length rows) rows) ≡ cond b (row ∷ filter p rows) (filter p rows)
      over true rest = ap (λ (l : List Row). row ∷ l) rest
      over false rest = rest

  behind_end : (rows : List Row) (n : ℕ) → length rows ≤ n → left rows n ≡ filter p rows
  behind_end [] zero le = refl
  behind_end [] (suc n) le = refl
  behind_end (row ∷ rows) zero le = absurd (omega (arith, le))
  behind_end (row ∷ rows) (suc n) le = over (p row) (behind_end rows n (omega (arith, le)))
    where
      over : (b : Bool) → left rows n ≡ filter p rows → (cond b (row ∷ filter p (take n rows)) (filter p (take n rows)) ++ drop n rows) ≡ cond b (row ∷ filter p rows) (filter p rows)
      over true rest = ap (λ (l : List Row). row ∷ l) rest
      over false rest = rest

  -- the row at a place is taken out by its position
  taken_here : (rows : List Row) (n : ℕ) (d : Row) → Rises rows → n < length rows → p (get_or rows n d) ≡ false → left rows (suc n) ≡ without (get_or rows n d).position (left rows n)
  taken_here [] n d rising lt fails = absurd (omega (arith, lt))
  taken_here (row ∷ rows) zero d rising lt fails =
      ap (λ b. cond b (row ∷ []) [] ++ rows) fails
      ∙ sym (if_false (not (row.position == row.position)) (row ∷ without row.position rows) (without row.position rows) (ap not (same row.position)) ∙ no_other row.position rows rising.0)
  taken_here (row ∷ rows) (suc n) d rising lt fails = over (p row) (taken_here rows n d rising.1 (omega (arith, lt)) fails)
    where
      position : ℕ
      position = (get_or rows n d).position

      lower : row.position < (get_or rows n d).position
      lower = each_at (λ (r : Row). row.position < r.position) rows rising.0 n d (omega (arith, lt))

      over : (b : Bool) → left rows (suc n) ≡ without (get_or rows n d).position (left rows n)
          → (cond b (row ∷ filter p (take (suc n) rows)) (filter p (take (suc n) rows)) ++ drop (suc n) rows) ≡ without (get_or rows n d).position (cond b (row ∷ filter p (take n rows)) (filter p (take n rows)) ++ drop n rows)
      over true rest = ap (λ (l : List Row). row ∷ l) rest
          ∙ sym (if_true (not (row.position == (get_or rows n d).position)) (row ∷ without (get_or rows n d).position (left rows n)) (without (get_or rows n d).position (left rows n)) (ap not (apart row.position (get_or rows n d).position lower)))
      over false rest = rest

pub step_of_leaving : (rows after : List Row) (from : ℕ) (found : Option ℕ) → AreRising rows → IsNextLeaving rows after from found → IsStepOfLeaving after rows from found
step_of_leaving rows after from None rising is = ⊎_elim
    (λ (le : from ≤ length rows). between (λ row. has_position after row.position) rows from (length rows) le (λ k d low high lt. is k d low lt) ∙ at_end (λ row. has_position after row.position) rows)
    (λ (gt : length rows < from). behind_end (λ row. has_position after row.position) rows from (omega (arith, gt)))
    (two_ways from (length rows))
  where
    two_ways : (m n : ℕ) → (m ≤ n) ⊎ (n < m)
    two_ways m n = grind arith
step_of_leaving rows after from (Some n) rising is = λ d.
    ap (λ m. left_below after rows m) (next n)
    ∙ taken_here (λ row. has_position after row.position) rows n d (rises rows rising) is.1 (is.2 d)
    ∙ ap (λ (l : List Row). without (get_or rows n d).position l) (sym (between (λ row. has_position after row.position) rows from n is.0 (λ k d low high lt. is.3 k d low high)))
  where
    next : (m : ℕ) → m + 1 ≡ suc m
    next m = omega arith

-- what is kept after a row was stored
module _ (kept : Kept) (row : Row) (sound : IsSound kept) (above : kept.next ≤ row.position)
    (new : Kept) (sets_are : new.sets ≡ map (goes row) kept.sets) (b : Bool) (held : is_held new.sets row ≡ b)
    (rows_are : new.rows ≡ filter (is_held new.sets) kept.rows ++ cond b (row ∷ []) []) (next_is : new.next ≡ row.position + 1)
    (all : List Row) (stands : StandsFor kept all) where
  pub gone_on_now : IsGoneOn (rules_of kept) row kept.rows new.rows
  gone_on_now =
      subst (λ (l : List Row). IsGoneOn (rules_of kept) row l new.rows) (sym stands.live)
      (subst (λ (l : List Row). IsGoneOn (rules_of kept) row (live_rows (rules_of kept) all) l)
      (sym (live_now kept row sound above new sets_are b held rows_are next_is all stands ∙ ap (λ (l : List SetRule). live_rows l (row ∷ all)) (rules_are kept row sound above new sets_are b held rows_are next_is)))
      (gone_on kept row sound above all stands))
