-- What a set keeps of its rows.
use Rattle.std.proofs.Common.{◌≡◌, ℕ, zero, suc, ◌+◌, ◌-◌, ◌<◌, ◌≤◌, ◌==◌, Bool, true, false, not, ◌&&◌, ◌||◌, cond, nat_le, min, max, List, [], ◌∷◌, ◌++◌, length, take, drop, reverse, Option, Some, None, refl, sym, ◌∙◌, ap, subst, arith}
use Rattle.std.proofs.Math.Seq.{take-append_seam}
use Rattle.std.proofs.lemmas.Bool.Decides.{nat_tests}
use Rattle.std.proofs.lemmas.List.{reverse-append, length-append, length-reverse, length-take, take_all}
use Rattle.std.proofs.lemmas.Grind.{reverse_onto}
use Rattle.gl_indexset.specs.declared.row.Row.{Row}
use Rattle.gl_indexset.specs.declared.set.Index.{Index}
use Rattle.gl_indexset.specs.Retention.{Numbered, index_of, first_moment, is_full, number_after}
use Rattle.gl_indexset.specs.SetKept.{SetKept, begun, drop_if, is_index_full, one_more, rotated, stored, with_newest, oldest_after, oldest_of, IsLined, IsSetSound}
use Rattle.gl_indexset.specs.Kept.{grown, indexes_of, shown, Summarizes}
use Rattle.gl_indexset.proofs.Sweeping.{if_true, if_false, by_cases}
use Rattle.gl_indexset.proofs.Numbering.{later, last_first, none_left, start_of, FitsHead, HeadFits, HeadOk}

tail_is : (x y : Index) (xs ys : List Index) → x ∷ xs ≡ y ∷ ys → xs ≡ ys
tail_is x y xs ys h = ap (λ (l : List Index). drop 1 l) h

head_is : (x y : Index) (xs ys : List Index) → x ∷ xs ≡ y ∷ ys → x ≡ y
head_is x y xs ys h = cc h

pub turned : (x : Index) (xs : List Index) → reverse (x ∷ xs) ≡ reverse xs ++ x ∷ []
turned x xs = reverse_onto xs x []

turned_push : (xs : List Index) (x : Index) → reverse (xs ++ x ∷ []) ≡ x ∷ reverse xs
turned_push xs x = reverse-append xs (x ∷ [])

take_less : (j : ℕ) (xs : List Index) → take j (take (suc j) xs) ≡ take j xs
take_less zero xs = refl
take_less (suc j) [] = refl
take_less (suc j) (x ∷ xs) = ap (λ (l : List Index). x ∷ l) (take_less j xs)

-- the last of some indexes is left out
all_but_last : (x : Index) (xs : List Index) (k : ℕ) (indexes : List Index) → reverse (x ∷ xs) ≡ take k indexes → length xs + 1 ≡ k → reverse xs ≡ take (length xs) indexes
all_but_last x xs k indexes is long =
    let whole : reverse xs ++ x ∷ [] ≡ take (suc (length xs)) indexes = sym (turned x xs) ∙ is ∙ ap (λ n. take n indexes) (sym long ∙ plus (length xs)) in
    sym (take-append_seam (reverse xs) (x ∷ []))
    ∙ ap (λ n. take n (reverse xs ++ x ∷ [])) (length-reverse xs)
    ∙ ap (λ (l : List Index). take (length xs) l) whole
    ∙ take_less (length xs) indexes
  where
    plus : (n : ℕ) → n + 1 ≡ suc n
    plus n = omega arith

-- how many indexes a set keeps behind its newest
most_kept : (closed indexes : List Index) (k : ℕ) → reverse closed ≡ take k indexes → (length closed ≤ k) × (length closed ≤ length indexes) × (length closed < k → length indexes ≡ length closed)
most_kept closed indexes k is =
    let long : length closed ≡ min k (length indexes) = sym (length-reverse closed) ∙ ap (λ (l : List Index). length l) is ∙ length-take k indexes in
    (omega (arith, long), omega (arith, long), λ less. omega (arith, long, less))

-- what is kept after a rotation
after_rotation : (keep k : ℕ) (newest : Index) (closed indexes : List Index) (b : Bool) → nat_le keep (length closed + 1) ≡ b → max keep 1 ≡ suc k
    → reverse closed ≡ take k indexes → reverse (drop_if b (closed ++ newest ∷ [])) ≡ take k (newest ∷ indexes)
after_rotation keep k newest [] indexes true is most kept = none k (fewest keep k is most)
  where
    fewest : (a n : ℕ) → nat_le a (0 + 1) ≡ true → max a 1 ≡ suc n → n ≡ 0
    fewest a n is most = grind (arith, nat_tests)

    none : (n : ℕ) → n ≡ 0 → [] ≡ take n (newest ∷ indexes)
    none zero z = refl
    none (suc n) z = absurd (omega arith)
after_rotation keep k newest (index ∷ closed) indexes true is most kept =
    turned_push closed newest ∙ by_length k long kept
  where
    long : length closed + 1 ≡ k
    long = exact keep k (length closed + 1) is most ((most_kept (index ∷ closed) indexes k kept).0)
      where
        exact : (a n m : ℕ) → nat_le a (suc (length closed) + 1) ≡ true → max a 1 ≡ suc n → suc (length closed) ≤ n → length closed + 1 ≡ n
        exact a n m is most le = grind (arith, nat_tests)

    by_length : (n : ℕ) → length closed + 1 ≡ n → reverse (index ∷ closed) ≡ take n indexes → newest ∷ reverse closed ≡ take n (newest ∷ indexes)
    by_length zero l kept = absurd (omega arith)
    by_length (suc n) l kept =
        let same : length closed ≡ n = omega arith in
        ap (λ (x : List Index). newest ∷ x) (all_but_last index closed (suc n) indexes kept l ∙ ap (λ m. take m indexes) same)
after_rotation keep k newest closed indexes false is most kept = turned_push closed newest ∙ by_length k fewer kept
  where
    fewer : length closed < k
    fewer = less keep k (length closed) is most
      where
        less : (a n m : ℕ) → nat_le a (m + 1) ≡ false → max a 1 ≡ suc n → m < n
        less a n m is most = grind (arith, nat_tests)

    by_length : (n : ℕ) → length closed < n → reverse closed ≡ take n indexes → newest ∷ reverse closed ≡ take n (newest ∷ indexes)
    by_length zero lt kept = absurd (omega arith)
    by_length (suc n) lt kept =
        let whole : length indexes ≡ length closed = (most_kept closed indexes (suc n) kept).2 lt in
        ap (λ (x : List Index). newest ∷ x) (kept ∙ take_all (suc n) indexes (omega (arith, whole)) ∙ sym (take_all n indexes (omega (arith, whole))))

-- a list of at least one
count_down : (n : ℕ) → 0 < n → n ≡ suc (n - 1)
count_down n some = omega arith

at_least_one : (keep : ℕ) → 0 < max keep 1
at_least_one keep = omega arith

pub take_none : (n : ℕ) → ◌≡◌ {A = List Index} (take n []) []
take_none zero = refl
take_none (suc n) = refl

take_one : (n : ℕ) (index : Index) → 0 < n → take n (index ∷ []) ≡ index ∷ []
take_one zero index some = absurd (omega arith)
take_one (suc n) index some = ap (λ (l : List Index). index ∷ l) (take_none n)

zero_test : (n : ℕ) → (n == 0) ≡ true → n ≡ 0
zero_test n h = grind (arith, nat_tests)

some_test : (n : ℕ) → (n == 0) ≡ false → 0 < n
some_test n h = grind (arith, nat_tests)

next_test : (n : ℕ) → ((n + 1) == 0) ≡ false
next_test n = grind (arith, nat_tests)

fresh_number : (n : ℕ) → cond ((n + 1) == n) false true ≡ true
fresh_number n = grind (arith, nat_tests)

same_again : (n : ℕ) → cond (n == n) false true ≡ false
same_again n = grind (arith, nat_tests)

module _ (next : ℕ) (set : SetKept) (sound : IsSetSound next set) where
  -- the first row of a set
  next_first : (row : Row) → Summarizes set [] → Summarizes (stored row.position row.moment set) (record { number = 0; row = row } ∷ [])
  next_first row sum = by_zero (set.newest.rows == 0) refl
    where
      by_zero : (b : Bool) → (set.newest.rows == 0) ≡ b → Summarizes (stored row.position row.moment set) (record { number = 0; row = row } ∷ [])
      by_zero true is = subst (λ (s : SetKept). Summarizes s (record { number = 0; row = row } ∷ []))
          (sym (if_true (set.newest.rows == 0) (with_newest (begun row.position row.moment) set) _ is)) (record {
            number = sum.number;
            indexes = ap (λ (l : List Index). begun row.position row.moment ∷ reverse l) ((sound.starts (zero_test set.newest.rows is)).1)
                ∙ sym (take_one (max set.rule.keep 1) (begun row.position row.moment) (at_least_one set.rule.keep));
          })
      by_zero false is = absurd (nothing (sym (if_false (set.newest.rows == 0) [] (set.newest ∷ reverse set.closed) is) ∙ sum.indexes ∙ take_none (max set.rule.keep 1)))
        where
          nothing : set.newest ∷ reverse set.closed ≡ [] → ⊥
          nothing h = cc h

  -- what a set shows where it has rows
  shows : (index : Index) (indexes : List Index) → shown set ≡ take (max set.rule.keep 1) (index ∷ indexes)
      → ((set.newest.rows == 0) ≡ false) × (set.newest ≡ index) × (reverse set.closed ≡ take (max set.rule.keep 1 - 1) indexes)
  shows index indexes is = by_zero (set.newest.rows == 0) refl
    where
      there : shown set ≡ index ∷ take (max set.rule.keep 1 - 1) indexes
      there = is ∙ ap (λ n. take n (index ∷ indexes)) (count_down (max set.rule.keep 1) (at_least_one set.rule.keep))

      by_zero : (b : Bool) → (set.newest.rows == 0) ≡ b → ((set.newest.rows == 0) ≡ false) × (set.newest ≡ index) × (reverse set.closed ≡ take (max set.rule.keep 1 - 1) indexes)
      by_zero true zero_is = absurd (nothing (sym (if_true (set.newest.rows == 0) [] (set.newest ∷ reverse set.closed) zero_is) ∙ there))
        where
          nothing : [] ≡ index ∷ take (max set.rule.keep 1 - 1) indexes → ⊥
          nothing h = cc h
      by_zero false zero_is =
          let both = sym (if_false (set.newest.rows == 0) [] (set.newest ∷ reverse set.closed) zero_is) ∙ there in
          (zero_is, head_is set.newest index (reverse set.closed) (take (max set.rule.keep 1 - 1) indexes) both, tail_is set.newest index (reverse set.closed) (take (max set.rule.keep 1 - 1) indexes) both)

  -- a further row of a set
  module _ (row : Row) (last : Numbered) (before : List Numbered) (sum : Summarizes set (last ∷ before)) where
    next_by : (index : Index) (indexes : List Index) → indexes_of (last ∷ before) ≡ index ∷ indexes → FitsHead last.number (last ∷ before) index
        → (b : Bool) → is_full set.rule (index_of last.number (last ∷ before)) row.moment ≡ b
        → Summarizes (stored row.position row.moment set) (record { number = cond b (last.number + 1) last.number; row = row } ∷ (last ∷ before))
    next_by index indexes are fits b full = by_full b full
      where
        seen : ((set.newest.rows == 0) ≡ false) × (set.newest ≡ index) × (reverse set.closed ≡ take (max set.rule.keep 1 - 1) indexes)
        seen = shows index indexes (sum.indexes ∙ ap (λ (l : List Index). take (max set.rule.keep 1) l) are)

        same_full : is_full set.rule (index_of last.number (last ∷ before)) row.moment ≡ is_index_full set.rule set.newest row.moment
        same_full =
            ap (λ n. (not (set.rule.max_docs == 0) && nat_le set.rule.max_docs n) || (not (set.rule.max_ms == 0) && nat_le (first_moment (index_of last.number (last ∷ before)) + set.rule.max_ms) row.moment)) (sym fits.count)
            ∙ ap (λ n. (not (set.rule.max_docs == 0) && nat_le set.rule.max_docs index.rows) || (not (set.rule.max_ms == 0) && nat_le (n + set.rule.max_ms) row.moment)) (sym fits.moment)
            ∙ ap (λ (i : Index). is_index_full set.rule i row.moment) (sym seen.1)

        most : max set.rule.keep 1 ≡ suc (max set.rule.keep 1 - 1)
        most = count_down (max set.rule.keep 1) (at_least_one set.rule.keep)

        by_full : (c : Bool) → is_full set.rule (index_of last.number (last ∷ before)) row.moment ≡ c
            → Summarizes (stored row.position row.moment set) (record { number = cond c (last.number + 1) last.number; row = row } ∷ (last ∷ before))
        by_full true is = subst (λ (s : SetKept). Summarizes s (record { number = last.number + 1; row = row } ∷ (last ∷ before)))
            (sym (if_false (set.newest.rows == 0) (with_newest (begun row.position row.moment) set) _ seen.0
            ∙ if_true (is_index_full set.rule set.newest row.moment) (rotated (begun row.position row.moment) set) _ (sym same_full ∙ is))) (record {
              number = ap (λ n. n + 1) sum.number;
              indexes = ap (λ (l : List Index). begun row.position row.moment ∷ l)
                  (after_rotation set.rule.keep (max set.rule.keep 1 - 1) set.newest set.closed indexes (nat_le set.rule.keep (length set.closed + 1)) refl most seen.2
                  ∙ ap (λ (i : Index). take (max set.rule.keep 1 - 1) (i ∷ indexes)) seen.1
                  ∙ ap (λ (l : List Index). take (max set.rule.keep 1 - 1) l) (sym are))
                  ∙ ap (λ n. take n (begun row.position row.moment ∷ indexes_of (last ∷ before))) (sym most)
                  ∙ ap (λ c. take (max set.rule.keep 1) (grown c (record { number = last.number + 1; row = row }) (indexes_of (last ∷ before)))) (sym (fresh_number last.number));
            })
        by_full false is = subst (λ (s : SetKept). Summarizes s (record { number = last.number; row = row } ∷ (last ∷ before)))
            (sym (if_false (set.newest.rows == 0) (with_newest (begun row.position row.moment) set) _ seen.0
            ∙ if_false (is_index_full set.rule set.newest row.moment) (rotated (begun row.position row.moment) set) _ (sym same_full ∙ is))) (record {
              number = sum.number;
              indexes = if_false ((set.newest.rows + 1) == 0) [] (one_more set.newest ∷ reverse set.closed) (next_test set.newest.rows)
                  ∙ ap (λ (l : List Index). one_more set.newest ∷ l) seen.2
                  ∙ ap (λ (i : Index). one_more i ∷ take (max set.rule.keep 1 - 1) indexes) seen.1
                  ∙ ap (λ n. take n (one_more index ∷ indexes)) (sym most)
                  ∙ ap (λ (l : List Index). take (max set.rule.keep 1) (grown false (record { number = last.number; row = row }) l)) (sym are)
                  ∙ ap (λ c. take (max set.rule.keep 1) (grown c (record { number = last.number; row = row }) (indexes_of (last ∷ before)))) (sym (same_again last.number));
            })

    next_more : HeadOk (last ∷ before) → Summarizes (stored row.position row.moment set) (record { number = number_after set.rule (last ∷ before) row.moment; row = row } ∷ (last ∷ before))
    next_more head = over (indexes_of (last ∷ before)) refl head
      where
        over : (l : List Index) → indexes_of (last ∷ before) ≡ l → HeadFits last.number (last ∷ before) l
            → Summarizes (stored row.position row.moment set) (record { number = number_after set.rule (last ∷ before) row.moment; row = row } ∷ (last ∷ before))
        over [] is fits = absurd fits
        over (index ∷ indexes) is fits = next_by index indexes is fits (is_full set.rule (index_of last.number (last ∷ before)) row.moment) refl

  pub next_summary : (row : Row) (rows : List Numbered) → HeadOk rows → Summarizes set rows
      → Summarizes (stored row.position row.moment set) (record { number = number_after set.rule rows row.moment; row = row } ∷ rows)
  next_summary row [] head sum = next_first row sum
  next_summary row (last ∷ before) head sum = next_more row last before sum head

  -- the first live row
  pub oldest_is : (rows : List Numbered) → Summarizes set rows → oldest_of set ≡ start_of set.rule.keep (indexes_of rows)
  oldest_is rows sum = by_zero (set.newest.rows == 0) refl (indexes_of rows) refl
    where
      no_index : [] ≡ take (max set.rule.keep 1) (indexes_of rows) → (indexes : List Index) → indexes_of rows ≡ indexes → start_of set.rule.keep indexes ≡ None
      no_index is [] are = none_left set.rule.keep
      no_index is (index ∷ indexes) are = absurd (nothing (is ∙ ap (λ (l : List Index). take (max set.rule.keep 1) l) are ∙ ap (λ n. take n (index ∷ indexes)) (count_down (max set.rule.keep 1) (at_least_one set.rule.keep))))
        where
          nothing : [] ≡ index ∷ take (max set.rule.keep 1 - 1) indexes → ⊥
          nothing h = cc h

      empty_set : (closed : List Index) → closed ≡ [] → (set.newest.rows == 0) ≡ true → oldest_after set.rule.keep set.newest closed ≡ None
      empty_set [] none zero_is = if_true ((set.newest.rows == 0) || (set.rule.keep == 0)) None (Some set.newest.first) (first_true (set.newest.rows == 0) (set.rule.keep == 0) zero_is)
        where
          first_true : (a b : Bool) → a ≡ true → (a || b) ≡ true
          first_true true b h = refl
          first_true false b h = cc h
      empty_set (index ∷ closed) none zero_is = cc none

      last_push : (xs : List Index) (index : Index) → last_first (xs ++ index ∷ []) ≡ Some index.first
      last_push [] index = refl
      last_push (x ∷ xs) index = ap (λ (o : Option ℕ). later x.first o) (last_push xs index)

      none_kept : (keep : ℕ) (newest : Index) (closed : List Index) → length closed ≡ 0 → keep ≡ 0 → oldest_after keep newest closed ≡ None
      none_kept keep newest [] none zero_is = if_true ((newest.rows == 0) || (keep == 0)) None (Some newest.first) (last_true (newest.rows == 0) (keep == 0) (is_zero keep zero_is))
        where
          last_true : (a b : Bool) → b ≡ true → (a || b) ≡ true
          last_true true b h = refl
          last_true false b h = h

          is_zero : (n : ℕ) → n ≡ 0 → (n == 0) ≡ true
          is_zero n h = grind (arith, nat_tests)
      none_kept keep newest (index ∷ closed) none zero_is = absurd (omega arith)

      first_kept : (keep : ℕ) (newest : Index) (closed : List Index) → (newest.rows == 0) ≡ false → 0 < keep → oldest_after keep newest closed ≡ last_first (newest ∷ reverse closed)
      first_kept keep newest [] some more = if_false ((newest.rows == 0) || (keep == 0)) None (Some newest.first) (both_false (newest.rows == 0) (keep == 0) some (not_zero keep more))
        where
          both_false : (a b : Bool) → a ≡ false → b ≡ false → (a || b) ≡ false
          both_false true b h i = cc h
          both_false false b h i = i

          not_zero : (n : ℕ) → 0 < n → (n == 0) ≡ false
          not_zero n h = grind (arith, nat_tests)
      first_kept keep newest (index ∷ closed) some more =
          sym (ap (λ (l : List Index). last_first (newest ∷ l)) (turned index closed) ∙ ap (λ (o : Option ℕ). later newest.first o) (last_push (reverse closed) index))

      with_rows : (index : Index) (indexes : List Index) → indexes_of rows ≡ index ∷ indexes → (keep : ℕ) → set.rule.keep ≡ keep → oldest_of set ≡ start_of keep (index ∷ indexes)
      with_rows index indexes are zero is =
          let seen = shows index indexes (sum.indexes ∙ ap (λ (l : List Index). take (max set.rule.keep 1) l) are) in
          let few = most_kept set.closed indexes (max set.rule.keep 1 - 1) seen.2 in
          none_kept set.rule.keep set.newest set.closed (omega (arith, few.0, is)) is
      with_rows index indexes are (suc keep) is =
          let seen = shows index indexes (sum.indexes ∙ ap (λ (l : List Index). take (max set.rule.keep 1) l) are) in
          let behind : max set.rule.keep 1 - 1 ≡ keep = omega (arith, is) in
          first_kept set.rule.keep set.newest set.closed seen.0 (omega (arith, is))
          ∙ ap (λ (i : Index). last_first (i ∷ reverse set.closed)) seen.1
          ∙ ap (λ (l : List Index). last_first (index ∷ l)) seen.2
          ∙ ap (λ n. last_first (index ∷ take n indexes)) behind

      by_zero : (b : Bool) → (set.newest.rows == 0) ≡ b → (indexes : List Index) → indexes_of rows ≡ indexes → oldest_of set ≡ start_of set.rule.keep (indexes_of rows)
      by_zero true zero_is indexes are =
          empty_set set.closed ((sound.starts (zero_test set.newest.rows zero_is)).1) zero_is
          ∙ sym (ap (λ (l : List Index). start_of set.rule.keep l) are
          ∙ no_index (sym (if_true (set.newest.rows == 0) [] (set.newest ∷ reverse set.closed) zero_is) ∙ sum.indexes) indexes are)
      by_zero false zero_is [] are = absurd (nothing (sym (if_false (set.newest.rows == 0) [] (set.newest ∷ reverse set.closed) zero_is) ∙ sum.indexes ∙ ap (λ (l : List Index). take (max set.rule.keep 1) l) are ∙ take_none (max set.rule.keep 1)))
        where
          nothing : set.newest ∷ reverse set.closed ≡ [] → ⊥
          nothing h = cc h
      by_zero false zero_is (index ∷ indexes) are = with_rows index indexes are set.rule.keep refl ∙ ap (λ (l : List Index). start_of set.rule.keep l) (sym are)

-- what holds of a set after a row
lined_more : (low : ℕ) (closed : List Index) (newest : Index) (position : ℕ) → IsLined low closed newest.first → newest.first ≤ position → IsLined low (closed ++ newest ∷ []) position
lined_more low [] newest position lined le = (lined, le)
lined_more low (index ∷ closed) newest position lined le = (lined.0, lined_more index.first closed newest position lined.1 le)

lined_lower : (a b : ℕ) (closed : List Index) (high : ℕ) → a ≤ b → IsLined b closed high → IsLined a closed high
lined_lower a b [] high le lined = omega arith
lined_lower a b (index ∷ closed) high le lined = (omega (arith, lined.0), lined.1)

lined_drop : (b : Bool) (closed : List Index) (high : ℕ) → IsLined 0 closed high → IsLined 0 (drop_if b closed) high
lined_drop false closed high lined = lined
lined_drop true [] high lined = lined
lined_drop true (index ∷ closed) high lined = lined_lower 0 index.first closed high (omega arith) lined.1

rotated_length : (b : Bool) (closed : List Index) (newest : Index) → length (drop_if b (closed ++ newest ∷ [])) ≤ length closed + 1
rotated_length false closed newest = omega (arith, length-append closed (newest ∷ []))
rotated_length true [] newest = omega arith
rotated_length true (index ∷ closed) newest = omega (arith, length-append closed (newest ∷ []))

pub sound_after : (position moment : ℕ) (set : SetKept) → IsSetSound position set → IsSetSound (position + 1) (stored position moment set)
sound_after position moment set sound = by_cases position moment set (λ (s : SetKept). IsSetSound (position + 1) s)
    (λ none. record {
      above = omega arith;
      number = rw ((sound.starts (zero_test set.newest.rows none)).0) (omega arith);
      closed = rw ((sound.starts (zero_test set.newest.rows none)).1) (omega arith);
      lined = rw ((sound.starts (zero_test set.newest.rows none)).1) (omega arith);
      starts = λ zero_is. absurd (omega arith);
    })
    (λ some full. record {
      above = omega arith;
      number = omega (arith, sound.number, sound.above, some_test set.newest.rows some);
      closed = omega (arith, sound.closed, rotated_length (nat_le set.rule.keep (length set.closed + 1)) set.closed set.newest);
      lined = lined_drop (nat_le set.rule.keep (length set.closed + 1)) (set.closed ++ set.newest ∷ []) position (lined_more 0 set.closed set.newest position sound.lined (omega (arith, sound.above)));
      starts = λ zero_is. absurd (omega arith);
    })
    (λ some full. record {
      above = omega (arith, sound.above);
      number = sound.number;
      closed = sound.closed;
      lined = sound.lined;
      starts = λ zero_is. absurd (omega arith);
    })

pub sound_later : (a b : ℕ) (set : SetKept) → a ≤ b → IsSetSound a set → IsSetSound b set
sound_later a b set le sound = record { above = omega (arith, sound.above, le); number = sound.number; closed = sound.closed; lined = sound.lined; starts = sound.starts }
