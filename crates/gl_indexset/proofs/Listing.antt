-- The live indexes that sets keep are those of all rows that were stored.
use Rattle.std.proofs.Common.{◌≡◌, ℕ, zero, suc, ◌+◌, ◌-◌, ◌<◌, ◌≤◌, ◌==◌, Bool, true, false, cond, nat_le, nat_lt, min, max, List, [], ◌∷◌, ◌++◌, length, get_or, map, take, reverse, Result, Ok, Err, refl, sym, ◌∙◌, ap, arith}
use Rattle.std.specs.Prelude.{IfOk}
use Rattle.std.specs.List.{flat_map}
use Rattle.std.proofs.lemmas.List.Concat.{flat_map-cons}
use Rattle.std.proofs.lemmas.Bool.Decides.{nat_tests}
use Rattle.std.proofs.lemmas.List.{append_assoc, append-nil, length-map, length-reverse, length-take, take_all, take_more, reverse-reverse}
use Rattle.gl_indexset.specs.declared.row.Row.{Row}
use Rattle.gl_fields.specs.declared.set_rule.SetRule.{SetRule}
use Rattle.gl_indexset.specs.declared.set.Index.{Index}
use Rattle.gl_indexset.specs.Retention.{Numbered, index_of, newest_number, number_after, is_full, rows_of, numbered, numbers_of}
use Rattle.gl_indexset.specs.SetKept.{SetKept, named_from, indexes_kept, IsSetSound}
use Rattle.gl_indexset.specs.Kept.{AreFalling, grown, indexes_of, Summarizes, Kept, rules_of, IsSound, StandsFor}
use Rattle.gl_indexset.specs.Summary.{index_name, index_if_live, live_below, live_indexes, summary_of}
use Rattle.gl_indexset.proofs.Numbering.{Each, each_map, IsLaidOut, all_laid, none_of, takes_head}
use Rattle.gl_indexset.proofs.Keeping.{turned, take_none}
use Rattle.gl_indexset.proofs.Sweeping.{if_true, if_false}
use Rattle.gl_indexset.proofs.Standing.{each_of, falling_rows}

pub named_push : (name : List ℕ) (number : ℕ) (indexes : List Index) (index : Index)
    → named_from name number (indexes ++ index ∷ []) ≡ named_from name number indexes ++ (index_name name (number + length indexes), index.rows) ∷ []
named_push name number [] index = ap (λ n. (index_name name n, index.rows) ∷ []) (nothing number)
  where
    nothing : (n : ℕ) → n ≡ n + 0
    nothing n = omega arith
named_push name number (x ∷ indexes) index =
    ap (λ (l : List (List ℕ × ℕ)). (index_name name number, x.rows) ∷ l) (named_push name (number + 1) indexes index
    ∙ ap (λ n. named_from name (number + 1) indexes ++ (index_name name n, index.rows) ∷ []) (moved number (length indexes)))
  where
    moved : (a b : ℕ) → (a + 1) + b ≡ a + suc b
    moved a b = omega arith

pub named_none : (found : List (List ℕ × ℕ)) (name : List ℕ) (number : ℕ) (indexes : List Index) → found ≡ found ++ named_from name number (take 0 indexes)
named_none found name number indexes = sym (append-nil found)

pub named_more : (name : List ℕ) (number at : ℕ) (indexes : List Index) (index : Index) → at < length indexes → get_or indexes at index ≡ index
    → named_from name number (take (at + 1) indexes) ≡ named_from name number (take at indexes) ++ (index_name name (number + at), index.rows) ∷ []
named_more name number at indexes index lt is =
    ap (λ (l : List Index). named_from name number l) (take_more indexes at index lt ∙ ap (λ (x : Index). take at indexes ++ x ∷ []) is)
    ∙ named_push name number (take at indexes) index
    ∙ ap (λ n. named_from name number (take at indexes) ++ (index_name name (number + n), index.rows) ∷ []) (long at)
  where
    long : (n : ℕ) → length (take at indexes) ≡ at
    long n = omega (arith, length-take at indexes, lt)

-- one index more was listed
pub listed_more : (found before new : List (List ℕ × ℕ)) (name text : List ℕ) (number at rows : ℕ) (indexes : List Index) (index : Index) → at < length indexes → get_or indexes at index ≡ index
    → before ≡ found ++ named_from name number (take at indexes) → text ≡ index_name name (number + at) → rows ≡ index.rows → new ≡ before ++ (text, rows) ∷ []
    → new ≡ found ++ named_from name number (take (at + 1) indexes)
listed_more found before new name text number at rows indexes index lt here so_far text_is rows_is new_is =
    new_is
    ∙ ap (λ (l : List (List ℕ × ℕ)). l ++ (text, rows) ∷ []) so_far
    ∙ append_assoc found (named_from name number (take at indexes)) ((text, rows) ∷ [])
    ∙ ap (λ (l : List (List ℕ × ℕ)). found ++ l)
    (ap (λ (t : List ℕ). named_from name number (take at indexes) ++ (t, rows) ∷ []) text_is
    ∙ ap (λ n. named_from name number (take at indexes) ++ (index_name name (number + at), n) ∷ []) rows_is
    ∙ sym (named_more name number at indexes index lt here))

pub listed_all : (set : SetKept) (found before new : List (List ℕ × ℕ)) (text : List ℕ) (first at : ℕ) → (set.rule.keep ≡ 0 → ⊥) → length set.closed ≤ set.number → first ≡ set.number - length set.closed
    → length set.closed ≤ at → before ≡ found ++ named_from set.rule.name first (take at set.closed) → text ≡ index_name set.rule.name set.number → new ≡ before ++ (text, set.newest.rows) ∷ []
    → new ≡ found ++ indexes_kept set
listed_all set found before new text first at some few first_is over so_far text_is new_is =
    new_is
    ∙ ap (λ (l : List (List ℕ × ℕ)). l ++ (text, set.newest.rows) ∷ []) so_far
    ∙ append_assoc found (named_from set.rule.name first (take at set.closed)) ((text, set.newest.rows) ∷ [])
    ∙ ap (λ (l : List (List ℕ × ℕ)). found ++ l) whole
  where
    last : set.number ≡ first + length set.closed
    last = omega (arith, few, first_is)

    keeps : (b : Bool) → (set.rule.keep == 0) ≡ b → named_from set.rule.name (set.number - length set.closed) (set.closed ++ set.newest ∷ []) ≡ cond b [] (named_from set.rule.name (set.number - length set.closed) (set.closed ++ set.newest ∷ []))
    keeps true is = absurd (some (zero_is set.rule.keep is))
      where
        zero_is : (n : ℕ) → (n == 0) ≡ true → n ≡ 0
        zero_is n h = grind (arith, nat_tests)
    keeps false is = refl

    whole : named_from set.rule.name first (take at set.closed) ++ (text, set.newest.rows) ∷ [] ≡ indexes_kept set
    whole =
        ap (λ (l : List Index). named_from set.rule.name first l ++ (text, set.newest.rows) ∷ []) (take_all at set.closed over)
        ∙ ap (λ (t : List ℕ). named_from set.rule.name first set.closed ++ (t, set.newest.rows) ∷ []) (text_is ∙ ap (λ n. index_name set.rule.name n) last)
        ∙ sym (named_push set.rule.name first set.closed set.newest)
        ∙ ap (λ n. named_from set.rule.name n (set.closed ++ set.newest ∷ [])) first_is
        ∙ keeps (set.rule.keep == 0) refl

-- how many rows the indexes below a number have, the newest first
abbrev pub counts : List Numbered → ℕ → List ℕ
counts rows zero = []
counts rows (suc n) = length (index_of n rows) ∷ counts rows n

counts_more : (rows : List Numbered) (n : ℕ) → counts rows (n + 1) ≡ length (index_of n rows) ∷ counts rows n
counts_more rows n = ap (λ m. counts rows m) (next n)
  where
    next : (m : ℕ) → m + 1 ≡ suc m
    next m = omega arith

length_counts : (rows : List Numbered) (n : ℕ) → length (counts rows n) ≡ n
length_counts rows zero = refl
length_counts rows (suc n) = ap suc (length_counts rows n)

skips_head : (row : Numbered) (rows : List Numbered) (n : ℕ) → n < row.number → index_of n (row ∷ rows) ≡ index_of n rows
skips_head row rows n lt = over (row.number == n) (differs row.number n lt)
  where
    differs : (a b : ℕ) → b < a → (a == b) ≡ false
    differs a b less = grind (arith, nat_tests)

    over : (b : Bool) → b ≡ false → ◌≡◌ {A = List Numbered} (cond b (row ∷ index_of n rows) (index_of n rows)) (index_of n rows)
    over true is = cc is
    over false is = refl

counts_above : (row : Numbered) (rows : List Numbered) (n : ℕ) → n ≤ row.number → counts (row ∷ rows) n ≡ counts rows n
counts_above row rows zero le = refl
counts_above row rows (suc n) le =
    ap (λ (l : List Numbered). length l ∷ counts (row ∷ rows) n) (skips_head row rows n (omega arith)) ∙ ap (λ (l : List ℕ). length (index_of n rows) ∷ l) (counts_above row rows n (omega arith))

abbrev pub rows_in : List Index → List ℕ
rows_in indexes = map (λ (index : Index). index.rows) indexes

abbrev pub top_of : List Numbered → ℕ
top_of [] = 0
top_of (last ∷ before) = last.number + 1

-- each index has the rows of its number
pub counted : (rule : SetRule) (next : ℕ) (rows : List Row) → AreFalling next rows → rows_in (indexes_of (numbered rule rows)) ≡ counts (numbered rule rows) (top_of (numbered rule rows))
counted rule next [] falling = refl
counted rule next (row ∷ before) falling =
    over (numbered rule before) (all_laid rule row.position before falling.1).0 (counted rule row.position before falling.1)
  where
    over : (rows : List Numbered) → IsLaidOut row.position rows → rows_in (indexes_of rows) ≡ counts rows (top_of rows)
        → rows_in (indexes_of (record { number = number_after rule rows row.moment; row = row } ∷ rows)) ≡ counts (record { number = number_after rule rows row.moment; row = row } ∷ rows) (number_after rule rows row.moment + 1)
    over [] laid so_far = refl
    over (last ∷ rest) laid so_far = by_full (is_full rule (index_of last.number (last ∷ rest)) row.moment)
      where
        by_full : (b : Bool) → rows_in (indexes_of (record { number = cond b (last.number + 1) last.number; row = row } ∷ (last ∷ rest)))
            ≡ counts (record { number = cond b (last.number + 1) last.number; row = row } ∷ (last ∷ rest)) (cond b (last.number + 1) last.number + 1)
        by_full true =
            let new : Numbered = record { number = last.number + 1; row = row } in
            let alone : index_of (last.number + 1) (new ∷ (last ∷ rest)) ≡ new ∷ [] =
            takes_head new (last ∷ rest) ∙ ap (λ (l : List Numbered). new ∷ l) (none_of (last.number + 1) (last ∷ rest)
            (each_map (λ (y : Numbered). y.number ≤ last.number) (λ (y : Numbered). y.number < last.number + 1) (λ y le. omega (arith, le)) (last ∷ rest) laid.numbers)) in
            ap (λ c. rows_in (grown c new (indexes_of (last ∷ rest)))) (fresh last.number)
            ∙ ap (λ (l : List ℕ). 1 ∷ l) (so_far ∙ sym (counts_above new (last ∷ rest) (last.number + 1) (omega arith)))
            ∙ ap (λ (l : List Numbered). length l ∷ counts (new ∷ (last ∷ rest)) (last.number + 1)) (sym alone)
            ∙ sym (counts_more (new ∷ (last ∷ rest)) (last.number + 1))
          where
            fresh : (n : ℕ) → cond ((n + 1) == n) false true ≡ true
            fresh n = grind (arith, nat_tests)
        by_full false =
            let new : Numbered = record { number = last.number; row = row } in
            ap (λ c. rows_in (grown c new (indexes_of (last ∷ rest)))) (same last.number)
            ∙ by_list (indexes_of (last ∷ rest)) (so_far ∙ counts_more (last ∷ rest) last.number)
            ∙ ap (λ (l : List ℕ). (length (index_of last.number (last ∷ rest)) + 1) ∷ l) (sym (counts_above new (last ∷ rest) last.number (omega arith)))
            ∙ ap (λ n. n ∷ counts (new ∷ (last ∷ rest)) last.number) (plus (length (index_of last.number (last ∷ rest))) ∙ ap (λ (l : List Numbered). length l) (sym (takes_head new (last ∷ rest))))
            ∙ sym (counts_more (new ∷ (last ∷ rest)) last.number)
          where
            same : (n : ℕ) → cond (n == n) false true ≡ false
            same n = grind (arith, nat_tests)

            plus : (n : ℕ) → n + 1 ≡ suc n
            plus n = omega arith

            by_list : (indexes : List Index) → rows_in indexes ≡ length (index_of last.number (last ∷ rest)) ∷ counts (last ∷ rest) last.number
                → rows_in (grown false (record { number = last.number; row = row }) indexes) ≡ (length (index_of last.number (last ∷ rest)) + 1) ∷ counts (last ∷ rest) last.number
            by_list [] is = cc is
            by_list (index ∷ indexes) is = cc is

-- of the indexes below a number, those from another on
module _ (rule : SetRule) (rows : List Numbered) where
  abbrev from_to : ℕ → ℕ → List (List ℕ × ℕ)
  from_to low zero = []
  from_to low (suc n) = from_to low n ++ cond (nat_le low n) ((index_name rule.name n, length (index_of n rows)) ∷ []) []

  none_from : (low high : ℕ) → high ≤ low → from_to low high ≡ []
  none_from low zero le = refl
  none_from low (suc n) le =
      ap (λ b. from_to low n ++ cond b ((index_name rule.name n, length (index_of n rows)) ∷ []) []) (above low n (omega arith))
      ∙ append-nil (from_to low n) ∙ none_from low n (omega arith)
    where
      above : (a b : ℕ) → b < a → nat_le a b ≡ false
      above a b lt = grind (arith, nat_tests)

  pub live_from : (high : ℕ) → live_below rule rows high ≡ from_to (newest_number rows + 1 - rule.keep) high
  live_from zero = refl
  live_from (suc n) =
      ap (λ (l : List (List ℕ × ℕ)). l ++ index_if_live rule rows n) (live_from n)
      ∙ ap (λ b. from_to (newest_number rows + 1 - rule.keep) n ++ cond b ((index_name rule.name n, length (index_of n rows)) ∷ []) []) (same (newest_number rows) n rule.keep)
    where
      same : (newest m keep : ℕ) → nat_lt newest (m + keep) ≡ nat_le (newest + 1 - keep) m
      same newest m keep = grind (arith, nat_tests)

  length_is : (indexes : List Index) (high : ℕ) → rows_in indexes ≡ counts rows high → length indexes ≡ high
  length_is indexes high is = sym (length-map indexes (λ (index : Index). index.rows)) ∙ ap (λ (l : List ℕ). length l) is ∙ length_counts rows high

  -- the newest of the indexes, the oldest of these first
  pub listed : (indexes : List Index) (high keep : ℕ) → rows_in indexes ≡ counts rows high
      → named_from rule.name (high - keep) (reverse (take keep indexes)) ≡ from_to (high - keep) high
  listed indexes high zero is = sym (none_from (high - 0) high (omega arith))
  listed [] zero (suc keep) is = refl
  listed [] (suc high) (suc keep) is = cc is
  listed (index ∷ indexes) zero (suc keep) is = cc is
  listed (index ∷ indexes) (suc high) (suc keep) is =
      let lows : suc high - suc keep ≡ high - keep = omega arith in
      let rest : rows_in indexes ≡ counts rows high = cc is in
      let here : index.rows ≡ length (index_of high rows) = cc is in
      let place : high - keep + length (reverse (take keep indexes)) ≡ high = omega (arith, length-reverse (take keep indexes), length-take keep indexes, length_is indexes high rest) in
      ap (λ n. named_from rule.name n (reverse (index ∷ take keep indexes))) lows
      ∙ ap (λ (l : List Index). named_from rule.name (high - keep) l) (turned index (take keep indexes))
      ∙ named_push rule.name (high - keep) (reverse (take keep indexes)) index
      ∙ ap (λ (l : List (List ℕ × ℕ)). l ++ (index_name rule.name (high - keep + length (reverse (take keep indexes))), index.rows) ∷ []) (listed indexes high keep rest)
      ∙ ap (λ n. from_to (high - keep) high ++ (index_name rule.name n, index.rows) ∷ []) place
      ∙ ap (λ n. from_to (high - keep) high ++ (index_name rule.name high, n) ∷ []) here
      ∙ ap (λ b. from_to (high - keep) high ++ cond b ((index_name rule.name high, length (index_of high rows)) ∷ []) []) (sym (reaches high keep))
      ∙ ap (λ n. from_to n high ++ cond (nat_le n high) ((index_name rule.name high, length (index_of high rows)) ∷ []) []) (sym lows)
    where
      reaches : (a b : ℕ) → nat_le (a - b) a ≡ true
      reaches a b = grind (arith, nat_tests)

if_ok : {T E : Type 0} (r : Result T E) (P Q : T → Type 0) → ((x : T) → P x → Q x) → IfOk r P → IfOk r Q
if_ok (Ok x) P Q gives h = gives x h
if_ok (Err e) P Q gives h = h

zero_is : (n : ℕ) → (n == 0) ≡ true → n ≡ 0
zero_is n h = grind (arith, nat_tests)

some_is : (n : ℕ) → (n == 0) ≡ false → 0 < n
some_is n h = grind (arith, nat_tests)

module _ (next : ℕ) (all : List Row) (falling : AreFalling next all) (set : SetKept) (sound : IsSetSound next set) (sum : Summarizes set (numbers_of set.rule all)) where
  -- a set with rows keeps their newest indexes
  with_rows : (last : Numbered) (before : List Numbered) → Summarizes set (last ∷ before) → rows_in (indexes_of (last ∷ before)) ≡ counts (last ∷ before) (last.number + 1)
      → (set.newest.rows == 0) ≡ false → (set.rule.keep == 0) ≡ false
      → named_from set.rule.name (set.number - length set.closed) (set.closed ++ set.newest ∷ []) ≡ live_below set.rule (last ∷ before) (last.number + 1)
  with_rows last before is tells some keeps =
      ap (λ (l : List Index). named_from set.rule.name (set.number - length set.closed) l) (in_order ∙ ap (λ (l : List Index). reverse l) kept)
      ∙ ap (λ n. named_from set.rule.name n (reverse (take set.rule.keep (indexes_of (last ∷ before))))) low
      ∙ listed set.rule (last ∷ before) (indexes_of (last ∷ before)) (last.number + 1) set.rule.keep tells
      ∙ sym (live_from set.rule (last ∷ before) (last.number + 1))
    where
      in_order : set.closed ++ set.newest ∷ [] ≡ reverse (set.newest ∷ reverse set.closed)
      in_order = ap (λ (l : List Index). l ++ set.newest ∷ []) (sym (reverse-reverse set.closed)) ∙ sym (turned set.newest (reverse set.closed))

      kept : set.newest ∷ reverse set.closed ≡ take set.rule.keep (indexes_of (last ∷ before))
      kept = sym (if_false (set.newest.rows == 0) [] (set.newest ∷ reverse set.closed) some) ∙ is.indexes ∙ ap (λ n. take n (indexes_of (last ∷ before))) (omega (arith, some_is set.rule.keep keeps))

      long : length set.closed + 1 ≡ min set.rule.keep (last.number + 1)
      long = omega (arith, length-reverse set.closed, ap (λ (l : List Index). length l) kept, length-take set.rule.keep (indexes_of (last ∷ before)), length_is set.rule (last ∷ before) (indexes_of (last ∷ before)) (last.number + 1) tells)

      low : set.number - length set.closed ≡ last.number + 1 - set.rule.keep
      low = omega (arith, long, is.number)

  -- a set without rows keeps an empty index
  without_rows : Summarizes set [] → (set.newest.rows == 0) ≡ true → (set.rule.keep == 0) ≡ false
      → named_from set.rule.name (set.number - length set.closed) (set.closed ++ set.newest ∷ []) ≡ live_below set.rule [] 1
  without_rows is none keeps =
      ap (λ (l : List Index). named_from set.rule.name (set.number - length l) (l ++ set.newest ∷ [])) starts.1
      ∙ ap (λ n. (index_name set.rule.name n, set.newest.rows) ∷ []) (omega (arith, starts.0))
      ∙ ap (λ n. (index_name set.rule.name 0, n) ∷ []) (zero_is set.newest.rows none)
      ∙ ap (λ b. cond b ((index_name set.rule.name 0, 0) ∷ []) []) (sym (more set.rule.keep (some_is set.rule.keep keeps)))
    where
      starts : (set.number ≡ 0) × (set.closed ≡ [])
      starts = sound.starts (zero_is set.newest.rows none)

      more : (n : ℕ) → 0 < n → nat_lt 0 (0 + n) ≡ true
      more n lt = grind (arith, nat_tests)

  pub set_listed : indexes_kept set ≡ live_indexes all set.rule
  set_listed = by_keep (set.rule.keep == 0) refl
    where
      nothing : (x : Index) (xs : List Index) (n : ℕ) → 0 < n → take n (x ∷ xs) ≡ [] → ⊥
      nothing x xs zero lt h = omega arith
      nothing x xs (suc n) lt h = cc h

      by_rows : (rows : List Numbered) → Summarizes set rows → rows_in (indexes_of rows) ≡ counts rows (top_of rows) → (b : Bool) → (set.newest.rows == 0) ≡ b → (set.rule.keep == 0) ≡ false
          → named_from set.rule.name (set.number - length set.closed) (set.closed ++ set.newest ∷ []) ≡ live_below set.rule rows (newest_number rows + 1)
      by_rows [] is tells true none keeps = without_rows is none keeps
      by_rows [] is tells false some keeps = absurd (filled (sym (if_false (set.newest.rows == 0) [] (set.newest ∷ reverse set.closed) some) ∙ is.indexes ∙ take_none (max set.rule.keep 1)))
        where
          filled : set.newest ∷ reverse set.closed ≡ [] → ⊥
          filled h = cc h
      by_rows (last ∷ before) is tells true none keeps =
          absurd (over (indexes_of (last ∷ before)) (tells ∙ counts_more (last ∷ before) last.number) (sym is.indexes ∙ if_true (set.newest.rows == 0) [] (set.newest ∷ reverse set.closed) none))
        where
          over : (l : List Index) → rows_in l ≡ length (index_of last.number (last ∷ before)) ∷ counts (last ∷ before) last.number → take (max set.rule.keep 1) l ≡ [] → ⊥
          over [] h i = cc h
          over (x ∷ xs) h i = nothing x xs (max set.rule.keep 1) (omega arith) i
      by_rows (last ∷ before) is tells false some keeps = with_rows last before is tells some keeps

      by_keep : (b : Bool) → (set.rule.keep == 0) ≡ b
          → cond b [] (named_from set.rule.name (set.number - length set.closed) (set.closed ++ set.newest ∷ [])) ≡ live_indexes all set.rule
      by_keep true none =
          sym (live_from set.rule (numbers_of set.rule all) (newest_number (numbers_of set.rule all) + 1)
          ∙ none_from set.rule (numbers_of set.rule all) (newest_number (numbers_of set.rule all) + 1 - set.rule.keep) (newest_number (numbers_of set.rule all) + 1) (omega (arith, zero_is set.rule.keep none)))
      by_keep false keeps = by_rows (numbers_of set.rule all) sum (counted set.rule next (rows_of set.rule all) (falling_rows set.rule next all falling)) (set.newest.rows == 0) refl keeps

pub sets_listed : (next : ℕ) (all : List Row) → AreFalling next all → (sets : List SetKept) → Each (IsSetSound next) sets → Each (λ (s : SetKept). Summarizes s (numbers_of s.rule all)) sets
    → flat_map indexes_kept sets ≡ summary_of (map (λ (s : SetKept). s.rule) sets) all
sets_listed next all falling [] sound sum = refl
sets_listed next all falling (set ∷ sets) sound sum =
    flat_map-cons indexes_kept set sets
    ∙ ap (λ (l : List (List ℕ × ℕ)). l ++ flat_map indexes_kept sets) (set_listed next all falling set sound.0 sum.0)
    ∙ ap (λ (l : List (List ℕ × ℕ)). live_indexes all set.rule ++ l) (sets_listed next all falling sets sound.1 sum.1)
    ∙ sym (flat_map-cons (live_indexes all) set.rule (map (λ (s : SetKept). s.rule) sets))

-- what is listed is the summary
pub summarized : {E : Type 0} (kept : Kept) → IsSound kept → (all : List Row) → StandsFor kept all → (r : Result (List (List ℕ × ℕ)) E)
    → IfOk r (λ (found : List (List ℕ × ℕ)). found ≡ flat_map indexes_kept kept.sets) → IfOk r (λ (found : List (List ℕ × ℕ)). found ≡ summary_of (rules_of kept) all)
summarized kept sound all stands r is = if_ok r (λ (found : List (List ℕ × ℕ)). found ≡ flat_map indexes_kept kept.sets) (λ (found : List (List ℕ × ℕ)). found ≡ summary_of (rules_of kept) all)
    (λ found e. e ∙ sets_listed kept.next all stands.falling kept.sets (each_of (IsSetSound kept.next) kept.sets sound.sets) (each_of (λ (s : SetKept). Summarizes s (numbers_of s.rule all)) kept.sets stands.sets)) is
