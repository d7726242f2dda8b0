-- Index numbers over the whole list of a set's rows, and the indexes that a set keeps of it.
use Rattle.std.proofs.Common.{◌≡◌, ℕ, zero, suc, ◌+◌, ◌<◌, ◌≤◌, ◌==◌, Bool, true, false, cond, nat_le, nat_lt, List, [], ◌∷◌, length, take, Option, Some, None, refl, sym, ◌∙◌, ap, subst, arith}
use Rattle.std.proofs.lemmas.Bool.Decides.{nat_tests}
use Rattle.gl_indexset.specs.declared.row.Row.{Row}
use Rattle.gl_fields.specs.declared.set_rule.SetRule.{SetRule}
use Rattle.gl_indexset.specs.declared.set.Index.{Index}
use Rattle.gl_indexset.specs.Retention.{Numbered, index_of, first_moment, is_full, number_after, numbered, newest_number}
use Rattle.gl_indexset.specs.SetKept.{begun, one_more, starts_by}
use Rattle.gl_indexset.specs.Kept.{AreFalling, grown, begins, indexes_of}

-- a fact of each element, by cases on the list
abbrev pub Each : {X : Type 0} → (X → Type 0) → List X → Type 0
Each P [] = Unit {0}
Each P (x ∷ xs) = P x × Each P xs

pub each_map : {X : Type 0} (P Q : X → Type 0) → ((x : X) → P x → Q x) → (xs : List X) → Each P xs → Each Q xs
each_map P Q gives [] e = tt
each_map P Q gives (x ∷ xs) e = (gives x e.0, each_map P Q gives xs e.1)

pub each_map_with : {X : Type 0} (P Q R : X → Type 0) → ((x : X) → P x → Q x → R x) → (xs : List X) → Each P xs → Each Q xs → Each R xs
each_map_with P Q R gives [] e f = tt
each_map_with P Q R gives (x ∷ xs) e f = (gives x e.0 f.0, each_map_with P Q R gives xs e.1 f.1)

-- where the oldest of these indexes begins
abbrev pub later : ℕ → Option ℕ → Option ℕ
later first None = Some first
later first (Some oldest) = Some oldest

abbrev pub last_first : List Index → Option ℕ
last_first [] = None
last_first (index ∷ indexes) = later index.first (last_first indexes)

abbrev pub start_of : ℕ → List Index → Option ℕ
start_of keep indexes = last_first (take keep indexes)

-- the index before the newest stands behind the newest one's rows
pub record FitsHead (number : ℕ) (rows : List Numbered) (index : Index) : Type 0 where
  pub count : index.rows ≡ length (index_of number rows)
  pub moment : index.moment ≡ first_moment (index_of number rows)

abbrev pub HeadFits : ℕ → List Numbered → List Index → Type 0
HeadFits number rows [] = ⊥
HeadFits number rows (index ∷ indexes) = FitsHead number rows index

-- a row is live where its number says so, and where its position is at or above the start
abbrev pub IsMeasured : ℕ → Option ℕ → ℕ → Numbered → Type 0
IsMeasured newest start keep row = nat_lt newest (row.number + keep) ≡ starts_by start row.row.position

-- What holds of the numbered rows of a set.
pub record IsLaidOut (next : ℕ) (rows : List Numbered) : Type 0 where
  pub numbers : Each (λ (row : Numbered). row.number ≤ newest_number rows) rows
  pub positions : Each (λ (row : Numbered). row.row.position < next) rows
  pub firsts : Each (λ (index : Index). index.first < next) (indexes_of rows)
  pub measured : (keep : ℕ) → Each (IsMeasured (newest_number rows) (start_of keep (indexes_of rows)) keep) rows

pub none_left : (keep : ℕ) → last_first (take keep []) ≡ None
none_left zero = refl
none_left (suc keep) = refl

-- the first row of a set
one_index : (row : Row) (next : ℕ) → row.position < next → IsLaidOut next (record { number = 0; row = row } ∷ [])
one_index row next lt = record {
  numbers = (omega arith, tt);
  positions = (lt, tt);
  firsts = (lt, tt);
  measured = λ keep. (alone keep, tt);
}
  where
    alone : (keep : ℕ) → nat_lt 0 (0 + keep) ≡ starts_by (start_of keep (begun row.position row.moment ∷ [])) row.position
    alone zero = refl
    alone (suc keep) = over (last_first (take keep [])) (none_left keep)
      where
        over : (o : Option ℕ) → o ≡ None → nat_lt 0 (0 + suc keep) ≡ starts_by (later row.position o) row.position
        over None is = grind (arith, nat_tests)
        over (Some first) is = cc is

-- the start of some indexes lies below what all of their firsts do
start_below : (next keep : ℕ) (indexes : List Index) → Each (λ (index : Index). index.first < next) indexes → (first : ℕ) → start_of keep indexes ≡ Some first → first < next
start_below next zero indexes e first is = cc is
start_below next (suc keep) [] e first is = cc is
start_below next (suc keep) (index ∷ indexes) e first is = over (start_below next keep indexes e.1) (start_of keep indexes) refl is
  where
    some_is : (a b : ℕ) → ◌≡◌ {A = Option ℕ} (Some a) (Some b) → a ≡ b
    some_is a b h = cc h

    over : ((f : ℕ) → start_of keep indexes ≡ Some f → f < next) → (o : Option ℕ) → start_of keep indexes ≡ o → later index.first o ≡ Some first → first < next
    over rest None here is = subst (λ n. n < next) (some_is index.first first is) e.0
    over rest (Some oldest) here is = subst (λ n. n < next) (some_is oldest first is) (rest oldest here)

-- a row in a new index
module _ (next : ℕ) (rows : List Numbered) (laid : IsLaidOut next rows) (row : Row) (number : ℕ) (above : next ≤ row.position)
    (fresh : begins (record { number = number; row = row }) rows ≡ true) (number_is : number ≡ newest_number rows + 1) where
  new_start : (keep : ℕ) (o : Option ℕ) → start_of keep (indexes_of rows) ≡ o → starts_by (later row.position o) row.position ≡ true
  new_start keep None is = grind (arith, nat_tests)
  new_start keep (Some first) is = reaches first row.position (omega (arith, start_below next keep (indexes_of rows) laid.firsts first is))
    where
      reaches : (a b : ℕ) → a ≤ b → nat_le a b ≡ true
      reaches a b le = grind (arith, nat_tests)

  old_start : (o : Option ℕ) (p : ℕ) → p < row.position → starts_by o p ≡ starts_by (later row.position o) p
  old_start None p lt = grind (arith, nat_tests)
  old_start (Some first) p lt = refl

  pub new_index : IsLaidOut (row.position + 1) (record { number = number; row = row } ∷ rows)
  new_index = record {
    numbers = (omega arith, each_map (λ (y : Numbered). y.number ≤ newest_number rows) (λ (y : Numbered). y.number ≤ number) (λ y le. omega (arith, le, number_is)) rows laid.numbers);
    positions = (omega arith, each_map (λ (y : Numbered). y.row.position < next) (λ (y : Numbered). y.row.position < row.position + 1) (λ y lt. omega (arith, lt, above)) rows laid.positions);
    firsts = subst (λ b. Each (λ (index : Index). index.first < row.position + 1) (grown b (record { number = number; row = row }) (indexes_of rows))) (sym fresh)
        (omega arith, each_map (λ (i : Index). i.first < next) (λ (i : Index). i.first < row.position + 1) (λ i lt. omega (arith, lt, above)) (indexes_of rows) laid.firsts);
    measured = λ keep. subst (λ b. Each (IsMeasured number (start_of keep (grown b (record { number = number; row = row }) (indexes_of rows))) keep) (record { number = number; row = row } ∷ rows)) (sym fresh) (measured keep);
  }
    where
      measured : (keep : ℕ) → Each (IsMeasured number (start_of keep (begun row.position row.moment ∷ indexes_of rows)) keep) (record { number = number; row = row } ∷ rows)
      measured zero = (
        none number,
        each_map (λ (y : Numbered). y.number ≤ newest_number rows) (IsMeasured number None 0) (λ y le. lower y.number (omega (arith, le, number_is))) rows laid.numbers,
      )
        where
          none : (n : ℕ) → nat_lt n (n + 0) ≡ false
          none n = grind (arith, nat_tests)

          lower : (m : ℕ) → m ≤ number → nat_lt number (m + 0) ≡ false
          lower m le = grind (arith, nat_tests)
      measured (suc keep) = (
        here keep number ∙ sym (new_start keep (start_of keep (indexes_of rows)) refl),
        each_map_with (IsMeasured (newest_number rows) (start_of keep (indexes_of rows)) keep) (λ (y : Numbered). y.row.position < next)
            (IsMeasured number (later row.position (start_of keep (indexes_of rows))) (suc keep))
            (λ y is lt. shifted y.number keep ∙ is ∙ old_start (start_of keep (indexes_of rows)) y.row.position (omega (arith, lt, above))) rows (laid.measured keep) laid.positions,
      )
        where
          here : (k n : ℕ) → nat_lt n (n + suc k) ≡ true
          here k n = grind (arith, nat_tests)

          shifted : (m k : ℕ) → nat_lt number (m + suc k) ≡ nat_lt (newest_number rows) (m + k)
          shifted m k = rw number_is (both (newest_number rows) m k)
            where
              both : (n m k : ℕ) → nat_lt (n + 1) (m + suc k) ≡ nat_lt n (m + k)
              both n m k = grind (arith, nat_tests)

-- a row in the newest index
module _ (next : ℕ) (last : Numbered) (before : List Numbered) (laid : IsLaidOut next (last ∷ before)) (row : Row) (above : next ≤ row.position)
    (index : Index) (indexes : List Index) (indexes_are : indexes_of (last ∷ before) ≡ index ∷ indexes) where
  abbrev pub added : Numbered
  added = record { number = last.number; row = row }

  pub indexes_now : indexes_of (added ∷ (last ∷ before)) ≡ one_more index ∷ indexes
  indexes_now = ap (λ b. grown b added (indexes_of (last ∷ before))) (same last.number) ∙ ap (λ (l : List Index). grown false added l) indexes_are
    where
      same : (n : ℕ) → cond (n == n) false true ≡ false
      same n = grind (arith, nat_tests)

  same_start : (keep : ℕ) → start_of keep (one_more index ∷ indexes) ≡ start_of keep (index ∷ indexes)
  same_start zero = refl
  same_start (suc keep) = refl

  pub same_index : IsLaidOut (row.position + 1) (added ∷ (last ∷ before))
  same_index = record {
    numbers = (omega arith, laid.numbers);
    positions = (omega arith, each_map (λ (y : Numbered). y.row.position < next) (λ (y : Numbered). y.row.position < row.position + 1) (λ y lt. omega (arith, lt, above)) (last ∷ before) laid.positions);
    firsts = rw indexes_now (
      omega (arith, index_low, above),
      each_map (λ (i : Index). i.first < next) (λ (i : Index). i.first < row.position + 1) (λ i lt. omega (arith, lt, above)) indexes rest_low,
    );
    measured = λ keep. subst (λ (o : Option ℕ). Each (IsMeasured last.number o keep) (added ∷ (last ∷ before)))
        (ap (λ (l : List Index). start_of keep l) indexes_are ∙ sym (same_start keep) ∙ ap (λ (l : List Index). start_of keep l) (sym indexes_now))
        (here keep, laid.measured keep);
  }
    where
      lows : Each (λ (i : Index). i.first < next) (index ∷ indexes)
      lows = subst (λ (l : List Index). Each (λ (i : Index). i.first < next) l) indexes_are laid.firsts

      index_low : index.first < next
      index_low = lows.0

      rest_low : Each (λ (i : Index). i.first < next) indexes
      rest_low = lows.1

      reaches : (a b : ℕ) → a ≤ b → nat_le a b ≡ true
      reaches a b le = grind (arith, nat_tests)

      here : (keep : ℕ) → nat_lt last.number (last.number + keep) ≡ starts_by (start_of keep (indexes_of (last ∷ before))) row.position
      here keep = by_keep keep ∙ ap (λ (l : List Index). starts_by (start_of keep l) row.position) (sym indexes_are)
        where
          by_keep : (k : ℕ) → nat_lt last.number (last.number + k) ≡ starts_by (start_of k (index ∷ indexes)) row.position
          by_keep zero = none last.number
            where
              none : (n : ℕ) → nat_lt n (n + 0) ≡ false
              none n = grind (arith, nat_tests)
          by_keep (suc k) = over (start_of k indexes) refl
            where
              more : (n : ℕ) → nat_lt n (n + suc k) ≡ true
              more n = grind (arith, nat_tests)

              over : (o : Option ℕ) → start_of k indexes ≡ o → nat_lt last.number (last.number + suc k) ≡ starts_by (later index.first o) row.position
              over None is = more last.number ∙ sym (reaches index.first row.position (omega (arith, index_low, above)))
              over (Some first) is = more last.number ∙ sym (reaches first row.position (omega (arith, start_below next k indexes rest_low first is, above)))

-- the newest index has just the rows of its number
pub none_of : (number : ℕ) (rows : List Numbered) → Each (λ (y : Numbered). y.number < number) rows → index_of number rows ≡ []
none_of number [] e = refl
none_of number (y ∷ rows) e = skip (y.number == number) (differs y.number e.0) ∙ none_of number rows e.1
  where
    differs : (n : ℕ) → n < number → (n == number) ≡ false
    differs n lt = grind (arith, nat_tests)

    skip : (b : Bool) → b ≡ false → ◌≡◌ {A = List Numbered} (cond b (y ∷ index_of number rows) (index_of number rows)) (index_of number rows)
    skip true is = cc is
    skip false is = refl

same_number : (n : ℕ) → (n == n) ≡ true
same_number n = grind (arith, nat_tests)

pub takes_head : (row : Numbered) (rows : List Numbered) → index_of row.number (row ∷ rows) ≡ row ∷ index_of row.number rows
takes_head row rows = take_it (row.number == row.number) (same_number row.number)
  where
    take_it : (b : Bool) → b ≡ true → ◌≡◌ {A = List Numbered} (cond b (row ∷ index_of row.number rows) (index_of row.number rows)) (row ∷ index_of row.number rows)
    take_it true is = refl
    take_it false is = cc is

first_alone : (row : Row) (number : ℕ) (rows : List Numbered) → index_of number rows ≡ [] → FitsHead number (record { number = number; row = row } ∷ rows) (begun row.position row.moment)
first_alone row number rows none = record {
  count = ap (λ (l : List Numbered). length l) (sym now);
  moment = ap (λ (l : List Numbered). first_moment l) (sym now);
}
  where
    now : index_of number (record { number = number; row = row } ∷ rows) ≡ record { number = number; row = row } ∷ []
    now = takes_head (record { number = number; row = row }) rows ∙ ap (λ (l : List Numbered). record { number = number; row = row } ∷ l) none

one_more_fits : (row : Row) (last : Numbered) (before : List Numbered) (index : Index) → FitsHead last.number (last ∷ before) index
    → FitsHead last.number (record { number = last.number; row = row } ∷ (last ∷ before)) (one_more index)
one_more_fits row last before index fits = record {
  count = ap (λ n. n + 1) (fits.count ∙ ap (λ (l : List Numbered). length l) there) ∙ plus (length (last ∷ index_of last.number before)) ∙ ap (λ (l : List Numbered). length l) (sym now);
  moment = fits.moment ∙ ap (λ (l : List Numbered). first_moment l) there ∙ ap (λ (l : List Numbered). first_moment l) (sym now);
}
  where
    there : index_of last.number (last ∷ before) ≡ last ∷ index_of last.number before
    there = takes_head last before

    now : index_of last.number (record { number = last.number; row = row } ∷ (last ∷ before)) ≡ record { number = last.number; row = row } ∷ (last ∷ index_of last.number before)
    now = takes_head (record { number = last.number; row = row }) (last ∷ before) ∙ ap (λ (l : List Numbered). record { number = last.number; row = row } ∷ l) there

    plus : (n : ℕ) → n + 1 ≡ suc n
    plus n = omega arith

-- the newest index has just the rows of its number
abbrev pub HeadOk : List Numbered → Type 0
HeadOk [] = Unit {0}
HeadOk (last ∷ before) = HeadFits last.number (last ∷ before) (indexes_of (last ∷ before))

pub laid_more : (a b : ℕ) (rows : List Numbered) → a ≤ b → IsLaidOut a rows → IsLaidOut b rows
laid_more a b rows le laid = record {
  numbers = laid.numbers;
  positions = each_map (λ (y : Numbered). y.row.position < a) (λ (y : Numbered). y.row.position < b) (λ y lt. omega (arith, lt, le)) rows laid.positions;
  firsts = each_map (λ (i : Index). i.first < a) (λ (i : Index). i.first < b) (λ i lt. omega (arith, lt, le)) (indexes_of rows) laid.firsts;
  measured = laid.measured;
}

-- a row that goes into the newest index of some, or into a new one
abbrev pub number_if : Bool → ℕ → ℕ
number_if b n = cond b (n + 1) n

goes_next : (row : Row) (last : Numbered) (before : List Numbered) → IsLaidOut row.position (last ∷ before) → HeadOk (last ∷ before) → (b : Bool)
    → IsLaidOut (row.position + 1) (record { number = number_if b last.number; row = row } ∷ (last ∷ before))
    × HeadOk (record { number = number_if b last.number; row = row } ∷ (last ∷ before))
goes_next row last before laid head true = (
  new_index row.position (last ∷ before) laid row (last.number + 1) (omega arith) fresh refl,
  subst (λ c. HeadFits (last.number + 1) (record { number = last.number + 1; row = row } ∷ (last ∷ before)) (grown c (record { number = last.number + 1; row = row }) (indexes_of (last ∷ before)))) (sym fresh)
      (first_alone row (last.number + 1) (last ∷ before) (none_of (last.number + 1) (last ∷ before)
      (each_map (λ (y : Numbered). y.number ≤ last.number) (λ (y : Numbered). y.number < last.number + 1) (λ y le. omega (arith, le)) (last ∷ before) laid.numbers))),
)
  where
    fresh : begins (record { number = last.number + 1; row = row }) (last ∷ before) ≡ true
    fresh = over last.number
      where
        over : (n : ℕ) → cond ((n + 1) == n) false true ≡ true
        over n = grind (arith, nat_tests)
goes_next row last before laid head false = over (indexes_of (last ∷ before)) refl head
  where
    over : (l : List Index) → indexes_of (last ∷ before) ≡ l → HeadFits last.number (last ∷ before) l
        → IsLaidOut (row.position + 1) (record { number = last.number; row = row } ∷ (last ∷ before)) × HeadOk (record { number = last.number; row = row } ∷ (last ∷ before))
    over [] is fits = absurd fits
    over (index ∷ indexes) is fits = (
      same_index row.position last before laid row (omega arith) index indexes is,
      subst (λ (l : List Index). HeadFits last.number (record { number = last.number; row = row } ∷ (last ∷ before)) l)
          (sym (indexes_now row.position last before laid row (omega arith) index indexes is)) (one_more_fits row last before index fits),
    )

next_row : (rule : SetRule) (row : Row) (rows : List Numbered) → IsLaidOut row.position rows → HeadOk rows
    → IsLaidOut (row.position + 1) (record { number = number_after rule rows row.moment; row = row } ∷ rows)
    × HeadOk (record { number = number_after rule rows row.moment; row = row } ∷ rows)
next_row rule row [] laid head = (one_index row (row.position + 1) (omega arith), first_alone row 0 [] refl)
next_row rule row (last ∷ before) laid head = goes_next row last before laid head (is_full rule (index_of last.number (last ∷ before)) row.moment)

pub all_laid : (rule : SetRule) (next : ℕ) (rows : List Row) → AreFalling next rows → IsLaidOut next (numbered rule rows) × HeadOk (numbered rule rows)
all_laid rule next [] falling = (record { numbers = tt; positions = tt; firsts = tt; measured = λ keep. tt }, tt)
all_laid rule next (row ∷ before) falling =
    let earlier = all_laid rule row.position before falling.1 in
    let both = next_row rule row (numbered rule before) earlier.0 earlier.1 in
    (laid_more (row.position + 1) next (numbered rule (row ∷ before)) (omega (arith, falling.0)) both.0, both.1)
