-- From minute to minute of a span: the rows of those that were passed.
use Rattle.std.proofs.Common.{◌≡◌, ◌⊎◌, ⊎_elim, inl, inr, ℕ, ◌+◌, ◌-◌, ◌*◌, ◌/◌, ◌<◌, ◌≤◌, ◌==◌, Bool, true, false, cond, not, ◌&&◌, nat_le, nat_lt, List, [], ◌∷◌, ◌++◌, filter, length, refl, sym, ap, ◌∙◌, arith}
use Rattle.std.specs.List.{count_by}
use Rattle.std.proofs.lemmas.Bool.{and_from, and_right, cases_lt, cases_order}
use Rattle.std.proofs.lemmas.Bool.Decides.{nat_tests}
use Rattle.std.proofs.lemmas.List.{length-map}
use Rattle.std.proofs.lemmas.List.Sums.{sum_by-append}
use Rattle.gl_indexset.specs.declared.row.Row.{Row}
use Rattle.gl_moments.specs.Inside.{AreKept, IsNext}
use Rattle.gl_moments.specs.Minutes.{is_met, is_near, minute_of, near, rows_of}
use Rattle.gl_words.specs.Candidates.{positions}
use Rattle.gl_moments.proofs.Counting.{one, counted, count_all, counted_both, same_rows}
use Rattle.gl_moments.proofs.Meeting.{tests_above, tests_at_most, tests_below}

-- of the rows of a span those of minutes below one
abbrev pub is_passed : (from to low : ℕ) → Row → Bool
is_passed from to low row = is_near from to row && nat_lt (minute_of row) low

abbrev pub passed : (from to low : ℕ) → List Row → List Row
passed from to low rows = filter (is_passed from to low) rows

none_at : (kept : ℕ → List ℕ) (rows : List Row) → AreKept kept rows → (m : ℕ) → kept m ≡ [] → positions (rows_of m rows) ≡ []
none_at kept rows h m none = sym (h.minutes m) ∙ none

-- ---- at the start there are none
pub none_passed : (from to : ℕ) (rows : List Row) → passed from to (from / 60000) rows ≡ []
none_passed from to [] = refl
none_passed from to (r ∷ rows) = over (is_passed from to (from / 60000) r) (none (minute_of r)) (none_passed from to rows)
  where
    none : (m : ℕ) → (is_met from to m && nat_lt m (from / 60000)) ≡ false
    none m = ⊎_elim
        (λ (low : m < from / 60000). ap (λ (b : Bool). (b && nat_lt (m * 60000) to) && nat_lt m (from / 60000)) (before m low))
        (λ (high : from / 60000 ≤ m). and_right (is_met from to m) (nat_lt m (from / 60000)) (tests_above m (from / 60000) high))
        (cases_lt m (from / 60000))
      where
        before : (m : ℕ) → m < from / 60000 → nat_le (from / 60000) m ≡ false
        before m lt = grind (arith, nat_tests)

    over : (b : Bool) → b ≡ false → passed from to (from / 60000) rows ≡ [] → cond b (r ∷ passed from to (from / 60000) rows) (passed from to (from / 60000) rows) ≡ []
    over true e rest = cc e
    over false e rest = rest

-- ---- over minutes without rows
pub skipped : (kept : ℕ → List ℕ) (from to low minute : ℕ) (rows : List Row) → AreKept kept rows → low ≤ minute → ((m : ℕ) → low ≤ m → m < minute → kept m ≡ []) → passed from to minute rows ≡ passed from to low rows
skipped kept from to low minute rows h le none = same_rows (is_passed from to minute) (is_passed from to low) rows (λ row. at (minute_of row))
  where
    at : (m : ℕ) → ((is_met from to m && nat_lt m minute) ≡ (is_met from to m && nat_lt m low)) ⊎ (positions (rows_of m rows) ≡ [])
    at m = ⊎_elim
        (λ (below : m < low). inl (ap (λ (b : Bool). is_met from to m && b) (tests_below m minute (omega (arith, below, le)) ∙ sym (tests_below m low below))))
        (λ (above : low ≤ m). ⊎_elim
        (λ (lt : m < minute). inr (none_at kept rows h m (none m above lt)))
        (λ (high : minute ≤ m). inl (ap (λ (b : Bool). is_met from to m && b) (tests_above m minute high ∙ sym (tests_above m low above))))
        (cases_lt m minute))
        (cases_lt m low)

-- ---- over a minute with rows
passes : (from to minute : ℕ) → from / 60000 ≤ minute → minute * 60000 < to → is_met from to minute ≡ true
passes from to minute le lt = and_from (nat_le (from / 60000) minute) (nat_lt (minute * 60000) to) (tests_at_most (from / 60000) minute le) (tests_below (minute * 60000) to lt)

pub taken : (kept : ℕ → List ℕ) (from to low minute : ℕ) (found : List ℕ) (rows : List Row) (test : ℕ → Bool) → AreKept kept rows → from / 60000 ≤ low → IsNext kept low to minute found
    → count_by test found + counted test (is_passed from to low) rows ≡ counted test (is_passed from to (minute + 1)) rows
taken kept from to low minute found rows test h start next =
    let is : found ≡ positions (rows_of minute rows) = next.first.theirs ∙ h.minutes minute in
    let theirs : count_by test found ≡ count_by test (positions (rows_of minute rows)) = ap (count_by test) is in
    let before : counted test (is_passed from to minute) rows ≡ counted test (is_passed from to low) rows
    = ap (λ (some : List Row). count_by test (positions some)) (skipped kept from to low minute rows h next.first.above next.first.none) in
    let sums : count_by test (positions (rows_of minute rows)) + counted test (is_passed from to minute) rows ≡ counted test (is_passed from to (minute + 1)) rows
    = counted_both test (λ row. minute_of row == minute) (is_passed from to minute) (is_passed from to (minute + 1)) rows (λ row. each (minute_of row)) in
    omega (arith, theirs, before, sums)
  where
    met : is_met from to minute ≡ true
    met = passes from to minute (omega (arith, start, next.first.above)) next.begins

    each : (m : ℕ) → one (m == minute) + one (is_met from to m && nat_lt m minute) ≡ one (is_met from to m && nat_lt m (minute + 1))
    each m = ⊎_elim
        (λ (e : m ≡ minute). at (m == minute) (is_met from to m) (nat_lt m minute) (nat_lt m (minute + 1)) (same m minute e) (ap (is_met from to) e ∙ met) (tests_above m minute (omega (arith, e))) (tests_below m (minute + 1) (omega (arith, e))))
        (λ (apart : (m < minute) ⊎ (minute < m)). ⊎_elim
        (λ (lt : m < minute). past (m == minute) (is_met from to m) (nat_lt m minute) (nat_lt m (minute + 1)) (other m minute (λ e. absurd (omega (arith, lt, e)))) (tests_below m minute lt) (tests_below m (minute + 1) (omega (arith, lt))))
        (λ (gt : minute < m). past (m == minute) (is_met from to m) (nat_lt m minute) (nat_lt m (minute + 1)) (other m minute (λ e. absurd (omega (arith, gt, e)))) (tests_above m minute (omega (arith, gt))) (tests_above m (minute + 1) (omega (arith, gt))))
        apart)
        (cases_order m minute)
      where
        same : (a b : ℕ) → a ≡ b → (a == b) ≡ true
        same a b e = grind (arith, nat_tests)

        other : (a b : ℕ) → (a ≡ b → ⊥) → (a == b) ≡ false
        other a b e = grind (arith, nat_tests)

        at : (s x t u : Bool) → s ≡ true → x ≡ true → t ≡ false → u ≡ true → one s + one (x && t) ≡ one (x && u)
        at true true false true a b c d = refl
        at false x t u a b c d = cc a
        at true false t u a b c d = cc b
        at true true true u a b c d = cc c
        at true true false false a b c d = cc d

        past : (s x t u : Bool) → {v : Bool} → s ≡ false → t ≡ v → u ≡ v → one s + one (x && t) ≡ one (x && u)
        past true x t u a b c = cc a
        past false x t u a b c = ap (λ (k : Bool). one false + one (x && k)) (b ∙ sym c) ∙ omega arith

-- ---- at the end there are all
pub all_passed : (kept : ℕ → List ℕ) (from to low : ℕ) (rows : List Row) → AreKept kept rows → ((m : ℕ) → low ≤ m → m * 60000 < to → kept m ≡ []) → passed from to low rows ≡ near from to rows
all_passed kept from to low rows h none = same_rows (is_passed from to low) (is_near from to) rows (λ row. at (minute_of row))
  where
    at : (m : ℕ) → ((is_met from to m && nat_lt m low) ≡ is_met from to m) ⊎ (positions (rows_of m rows) ≡ [])
    at m = ⊎_elim
        (λ (below : m < low). inl (ap (λ (b : Bool). is_met from to m && b) (tests_below m low below) ∙ whole (is_met from to m)))
        (λ (above : low ≤ m). ⊎_elim
        (λ (lt : m * 60000 < to). inr (none_at kept rows h m (none m above lt)))
        (λ (high : to ≤ m * 60000).
        let far : is_met from to m ≡ false = and_right (nat_le (from / 60000) m) (nat_lt (m * 60000) to) (tests_above (m * 60000) to high) in
        inl (ap (λ (b : Bool). b && nat_lt m low) far ∙ sym far))
        (cases_lt (m * 60000) to))
        (cases_lt m low)
      where
        whole : (b : Bool) → (b && true) ≡ b
        whole true = refl
        whole false = refl

-- ---- no more were passed than there are
pub within : (test : ℕ → Bool) (from to low : ℕ) (rows : List Row) → counted test (is_passed from to low) rows ≤ counted test (is_near from to) rows
within test from to low rows =
    let sums : counted test (is_passed from to low) rows + counted test (λ row. is_near from to row && not (nat_lt (minute_of row) low)) rows ≡ counted test (is_near from to) rows
    = counted_both test (is_passed from to low) (λ row. is_near from to row && not (nat_lt (minute_of row) low)) (is_near from to) rows (λ row. parts (is_near from to row) (nat_lt (minute_of row) low)) in
    omega (arith, sums)
  where
    parts : (x y : Bool) → one (x && y) + one (x && not y) ≡ one x
    parts true true = refl
    parts true false = refl
    parts false y = refl

-- ---- how many they are
pub how_many : (rows : List Row) → count_by (λ _. true) (positions rows) ≡ length rows
how_many rows = count_all (positions rows) ∙ length-map rows (λ (r : Row). r.position)

-- ---- what was gathered, and how many more there may be
pub gathered : (kept : ℕ → List ℕ) (from to low minute : ℕ) (so_far found : List ℕ) (rows : List Row) (test : ℕ → Bool) → AreKept kept rows → from / 60000 ≤ low → IsNext kept low to minute found
    → count_by test so_far ≡ counted test (is_passed from to low) rows → count_by test (so_far ++ found) ≡ counted test (is_passed from to (minute + 1)) rows
gathered kept from to low minute so_far found rows test h start next is =
    let sums : count_by test (so_far ++ found) ≡ count_by test so_far + count_by test found = sum_by-append (λ x. cond (test x) 1 0) so_far found in
    omega (arith, sums, is, taken kept from to low minute found rows test h start next)

pub nothing_gathered : (from to : ℕ) (rows : List Row) (test : ℕ → Bool) → 0 ≡ counted test (is_passed from to (from / 60000)) rows
nothing_gathered from to rows test = sym (ap (λ (some : List Row). count_by test (positions some)) (none_passed from to rows))

abbrev pub count_passed : (from to low : ℕ) → List Row → ℕ
count_passed from to low rows = counted (λ _. true) (is_passed from to low) rows

all_of_minute : (kept : ℕ → List ℕ) (from to low minute : ℕ) (found : List ℕ) (rows : List Row) → AreKept kept rows → from / 60000 ≤ low → IsNext kept low to minute found
    → length found + count_passed from to low rows ≡ count_passed from to (minute + 1) rows
all_of_minute kept from to low minute found rows h start next =
    omega (arith, count_all found, taken kept from to low minute found rows (λ _. true) h start next)

pub fewer_on : (kept : ℕ → List ℕ) (from to low minute left limit : ℕ) (found : List ℕ) (rows : List Row) → AreKept kept rows → from / 60000 ≤ low → IsNext kept low to minute found
    → length found ≤ left → count_passed from to low rows + left ≡ limit → count_passed from to (minute + 1) rows + (left - length found) ≡ limit
fewer_on kept from to low minute left limit found rows h start next le is =
    omega (arith, all_of_minute kept from to low minute found rows h start next, le, is)

pub not_fewer : (kept : ℕ → List ℕ) (from to low minute left limit : ℕ) (found : List ℕ) (rows : List Row) → AreKept kept rows → from / 60000 ≤ low → IsNext kept low to minute found
    → left ≤ length found → count_passed from to low rows + left ≡ limit → false ≡ nat_lt (length (near from to rows)) limit
not_fewer kept from to low minute left limit found rows h start next le is =
    let some : count_passed from to (minute + 1) rows ≤ counted (λ _. true) (is_near from to) rows = within (λ _. true) from to (minute + 1) rows in
    sym (tests_above (length (near from to rows)) limit (omega (arith, all_of_minute kept from to low minute found rows h start next, some, how_many (near from to rows), le, is)))

pub fewer_by : (kept : ℕ → List ℕ) (from to low left limit : ℕ) (rows : List Row) → AreKept kept rows → ((m : ℕ) → low ≤ m → m * 60000 < to → kept m ≡ [])
    → count_passed from to low rows + left ≡ limit → nat_lt 0 left ≡ nat_lt (length (near from to rows)) limit
fewer_by kept from to low left limit rows h none is =
    let all : count_passed from to low rows ≡ count_by (λ _. true) (positions (near from to rows)) = ap (λ (some : List Row). count_by (λ _. true) (positions some)) (all_passed kept from to low rows h none) in
    more (length (near from to rows)) left limit (omega (arith, all, how_many (near from to rows), is))
  where
    more : (x l k : ℕ) → x + l ≡ k → nat_lt 0 l ≡ nat_lt x k
    more x l k e = grind (arith, nat_tests)
