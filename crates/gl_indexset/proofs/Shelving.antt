-- Slots with and without a row, and their counts.
use Rattle.std.proofs.Common.{◌≡◌, ℕ, zero, suc, ◌+◌, ◌-◌, ◌<◌, ◌≤◌, List, [], ◌∷◌, ◌++◌, Option, Some, None, length, get_or, map, set, take, filter, replicate, is_some, refl, sym, ◌∙◌, ap, subst, arith, length-append, length-set}
use Rattle.std.specs.List.{sum, slice_get, remove}
use Rattle.std.proofs.lemmas.List.{length-replicate}
use Rattle.std.proofs.lemmas.List.Sums.{sum_by-cons, sum_by-take-le}
use Rattle.std.proofs.lemmas.List.Edits.{length-remove}
use Rattle.std.proofs.lemmas.Option.{slice_get_read}
use Rattle.gl_indexset.specs.declared.row.Row.{Row}
use Rattle.gl_indexset.specs.Ranks.{lowered, raised}
use Rattle.gl_indexset.proofs.Ranking.{sum_next}
use Rattle.gl_indexset.specs.Shelved.{AreShelved, Shelved, count_in, present}

sum_cons : (x : ℕ) (xs : List ℕ) → sum (x ∷ xs) ≡ x + sum xs
sum_cons x xs = sum_by-cons (λ (y : ℕ). y) x xs

sum_zeros : (n : ℕ) → sum (replicate n 0) ≡ 0
sum_zeros zero = refl
sum_zeros (suc n) = sum_zeros n

zeros_at : (n k : ℕ) → get_or {A = ℕ} (replicate n 0) k 0 ≡ 0
zeros_at zero k = refl
zeros_at (suc n) zero = refl
zeros_at (suc n) (suc k) = zeros_at n k

module _ {X : Type 0} where
  abbrev pub counts_in : List (Option X) → List ℕ
  counts_in slots = map (λ slot. count_in slot) slots

  -- the counts of slots, and of those that aren't there yet
  abbrev pub counted : List (Option X) → ℕ → List ℕ
  counted slots gap = counts_in slots ++ replicate gap 0

  pub sum_counted : (slots : List (Option X)) (gap : ℕ) → sum (counted slots gap) ≡ length (present slots)
  sum_counted [] gap = sum_zeros gap
  sum_counted (None ∷ slots) gap = omega (arith, sum_cons 0 (counted slots gap), sum_counted slots gap)
  sum_counted (Some x ∷ slots) gap = omega (arith, sum_cons 1 (counted slots gap), sum_counted slots gap)

  pub length_counted : (slots : List (Option X)) (gap : ℕ) → length (counted slots gap) ≡ length slots + gap
  length_counted [] gap = omega (arith, length-replicate {A = ℕ} gap 0)
  length_counted (slot ∷ slots) gap = omega (arith, length_counted slots gap)

  pub fewer_present : (slots : List (Option X)) → length (present slots) ≤ length slots
  fewer_present [] = omega arith
  fewer_present (None ∷ slots) = omega (arith, fewer_present slots)
  fewer_present (Some x ∷ slots) = omega (arith, fewer_present slots)

  -- under the count of a slot stands the n-th of what is there
  pub found_within : (slots : List (Option X)) (gap slot : ℕ) → 0 < get_or (counted slots gap) slot 0 → slot < length slots
  found_within [] gap slot some = absurd (omega (arith, some, zeros_at gap slot))
  found_within (first ∷ slots) gap zero some = omega arith
  found_within (first ∷ slots) gap (suc slot) some = omega (arith, found_within slots gap slot some)

  pub found_some : (slots : List (Option X)) (gap slot : ℕ) → 0 < get_or (counted slots gap) slot 0 → slice_get slots slot ≡ Some None → ⊥
  found_some [] gap slot some is = cc is
  found_some (None ∷ slots) gap zero some is = absurd (omega (arith, some))
  found_some (Some x ∷ slots) gap zero some is = cc is
  found_some (first ∷ slots) gap (suc slot) some is = found_some slots gap slot some is

  pub found_row : (slots : List (Option X)) (gap slot n : ℕ) (x : X) → sum (take slot (counted slots gap)) ≤ n → n < sum (take slot (counted slots gap)) + get_or (counted slots gap) slot 0
      → slice_get slots slot ≡ Some (Some x) → slice_get (present slots) n ≡ Some x
  found_row [] gap slot n x before there is = cc is
  found_row (None ∷ slots) gap zero n x before there is = cc is
  found_row (Some y ∷ slots) gap zero zero x before there is = cc is
  found_row (Some y ∷ slots) gap zero (suc n) x before there is = absurd (omega (arith, there))
  found_row (None ∷ slots) gap (suc slot) n x before there is =
      found_row slots gap slot n x (omega (arith, before, sum_cons 0 (take slot (counted slots gap)))) (omega (arith, there, sum_cons 0 (take slot (counted slots gap)))) is
  found_row (Some y ∷ slots) gap (suc slot) zero x before there is = absurd (omega (arith, before, sum_cons 1 (take slot (counted slots gap))))
  found_row (Some y ∷ slots) gap (suc slot) (suc n) x before there is =
      found_row slots gap slot n x (omega (arith, before, sum_cons 1 (take slot (counted slots gap)))) (omega (arith, there, sum_cons 1 (take slot (counted slots gap)))) is

  -- what is left when the n-th is taken out
  pub taken_out : (slots : List (Option X)) (gap slot n : ℕ) → sum (take slot (counted slots gap)) ≤ n → n < sum (take slot (counted slots gap)) + get_or (counted slots gap) slot 0
      → present (set slots slot None) ≡ remove (present slots) n
  taken_out [] gap slot n before there = absurd (omega (arith, before, there, zeros_at gap slot))
  taken_out (None ∷ slots) gap zero n before there = absurd (omega (arith, before, there))
  taken_out (Some y ∷ slots) gap zero zero before there = refl
  taken_out (Some y ∷ slots) gap zero (suc n) before there = absurd (omega (arith, there))
  taken_out (None ∷ slots) gap (suc slot) n before there =
      taken_out slots gap slot n (omega (arith, before, sum_cons 0 (take slot (counted slots gap)))) (omega (arith, there, sum_cons 0 (take slot (counted slots gap))))
  taken_out (Some y ∷ slots) gap (suc slot) zero before there = absurd (omega (arith, before, sum_cons 1 (take slot (counted slots gap))))
  taken_out (Some y ∷ slots) gap (suc slot) (suc n) before there =
      ap (λ (l : List X). y ∷ l)
      (taken_out slots gap slot n (omega (arith, before, sum_cons 1 (take slot (counted slots gap)))) (omega (arith, there, sum_cons 1 (take slot (counted slots gap)))))

  pub counted_out : (slots : List (Option X)) (gap slot : ℕ) → 0 < get_or (counted slots gap) slot 0 → lowered slot (counted slots gap) ≡ counted (set slots slot None) gap
  counted_out [] gap slot some = absurd (omega (arith, some, zeros_at gap slot))
  counted_out (None ∷ slots) gap zero some = absurd (omega (arith, some))
  counted_out (Some y ∷ slots) gap zero some = refl
  counted_out (first ∷ slots) gap (suc slot) some = ap (λ (l : List ℕ). count_in first ∷ l) (counted_out slots gap slot some)

  -- one more behind the others
  pub put_behind : (slots : List (Option X)) (x : X) → present (slots ++ Some x ∷ []) ≡ present slots ++ x ∷ []
  put_behind [] x = refl
  put_behind (None ∷ slots) x = put_behind slots x
  put_behind (Some y ∷ slots) x = ap (λ (l : List X). y ∷ l) (put_behind slots x)

  pub counted_behind : (slots : List (Option X)) (gap : ℕ) (x : X) → 0 < gap → raised (length slots) (counted slots gap) ≡ counted (slots ++ Some x ∷ []) (gap - 1)
  counted_behind [] zero x some = absurd (omega (arith, some))
  counted_behind [] (suc gap) x some = ap (λ n. 1 ∷ replicate n 0) (one_less gap)
    where
      one_less : (n : ℕ) → n ≡ suc n - 1
      one_less n = omega arith
  counted_behind (first ∷ slots) gap x some = ap (λ (l : List ℕ). count_in first ∷ l) (counted_behind slots gap x some)

  -- only the slots with something in them
  pub present_kept : (slots : List (Option X)) → present (filter (λ slot. is_some slot) slots) ≡ present slots
  present_kept [] = refl
  present_kept (None ∷ slots) = present_kept slots
  present_kept (Some x ∷ slots) = ap (λ (l : List X). x ∷ l) (present_kept slots)

  pub length_kept : (slots : List (Option X)) → length (filter (λ slot. is_some slot) slots) ≡ length (present slots)
  length_kept [] = refl
  length_kept (None ∷ slots) = length_kept slots
  length_kept (Some x ∷ slots) = omega (arith, length_kept slots)

  pub counted_kept : (slots : List (Option X)) (gap : ℕ) → counted (filter (λ slot. is_some slot) slots) gap ≡ replicate (length (present slots)) 1 ++ replicate gap 0
  counted_kept [] gap = refl
  counted_kept (None ∷ slots) gap = counted_kept slots gap
  counted_kept (Some x ∷ slots) gap = ap (λ (l : List ℕ). 1 ∷ l) (counted_kept slots gap)

  -- the slot under whose count the n-th of what is there stands
  module _ (slots : List (Option X)) (marks : List ℕ) (gap slot n : ℕ) (counts : marks ≡ counted slots gap)
      (before : sum (take slot marks) ≤ n) (there : n < sum (take slot marks) + get_or marks slot 0) where
    under : sum (take slot (counted slots gap)) ≤ n
    under = subst (λ (l : List ℕ). sum (take slot l) ≤ n) counts before

    over : n < sum (take slot (counted slots gap)) + get_or (counted slots gap) slot 0
    over = subst (λ (l : List ℕ). n < sum (take slot l) + get_or l slot 0) counts there

    some : 0 < get_or (counted slots gap) slot 0
    some = omega (arith, under, over)

    pub slot_within : slot < length slots
    slot_within = found_within slots gap slot some

    pub row_there : (found : Option X) (x : X) → found ≡ get_or slots slot found → found ≡ Some x → slice_get (present slots) n ≡ Some x
    row_there found x is some_is = found_row slots gap slot n x under over
        (slice_get_read slots (length slots) slot found refl slot_within is ∙ ap (λ (y : Option X). Some y) some_is)

    pub not_none : (found : Option X) → found ≡ get_or slots slot found → found ≡ None → ⊥
    not_none found is none_is = found_some slots gap slot some
        (slice_get_read slots (length slots) slot found refl slot_within is ∙ ap (λ (y : Option X). Some y) none_is)

    pub rows_left : present (set slots slot None) ≡ remove (present slots) n
    rows_left = taken_out slots gap slot n under over

    pub counts_left : lowered slot marks ≡ counted (set slots slot None) gap
    counts_left = ap (λ (l : List ℕ). lowered slot l) counts ∙ counted_out slots gap slot some

pub shelf_is : (rows others : List Row) (a b : ℕ) → rows ≡ others → a ≡ b → ◌≡◌ {A = Shelved} (record { rows = rows; spare = a }) (record { rows = others; spare = b })
shelf_is rows others a b rows_are spare_is = cc

-- what keeps the counts as they should be
module _ (slots : List (Option Row)) (marks : List ℕ) (size capacity : ℕ) (sound : AreShelved slots marks size capacity) where
  pub sum_is : sum marks ≡ length (present slots)
  sum_is = ap (λ (l : List ℕ). sum l) sound.counts ∙ sum_counted slots (length marks - length slots)

  pub pushed : (row : Row) (now : List (Option Row)) (new : List ℕ) (room slot : ℕ) → 0 < length marks - length slots
      → now ≡ slots ++ Some row ∷ [] → slot ≡ length slots → new ≡ raised slot marks → room ≡ capacity → AreShelved now new (size + 1) room
  pushed row now new room slot some items at counts same = record {
    counts = counts ∙ ap (λ n. raised n marks) at ∙ ap (λ (l : List ℕ). raised (length slots) l) sound.counts
        ∙ counted_behind slots (length marks - length slots) row some
        ∙ ap (λ (l : List (Option Row)). counted l (length marks - length slots - 1)) (sym items)
        ∙ ap (λ n. counted now n) (omega (arith, long, longer));
    within = omega (arith, long, longer, some);
    room = omega (arith, longer, sound.room, same);
    len = omega (arith, sound.len, ap (λ (l : List (Option Row)). length (present l)) items, ap (λ (l : List Row). length l) (put_behind slots row), length-append (present slots) (row ∷ []));
  }
    where
      long : length now ≡ length slots + 1
      long = omega (arith, ap (λ (l : List (Option Row)). length l) items, length-append slots (Some row ∷ []))

      longer : length new ≡ length marks
      longer = ap (λ (l : List ℕ). length l) counts ∙ length-set marks slot (get_or marks slot 0 + 1)

  pub removed : (slot n : ℕ) (new : List ℕ) → sum (take slot marks) ≤ n → n < sum (take slot marks) + get_or marks slot 0
      → new ≡ lowered slot marks → AreShelved (set slots slot None) new (size - 1) capacity
  removed slot n new before there counts = record {
    counts = counts ∙ counts_left slots marks (length marks - length slots) slot n sound.counts before there
        ∙ ap (λ m. counted (set slots slot None) m) (omega (arith, longer, length-set slots slot None));
    within = omega (arith, longer, length-set slots slot None, sound.within);
    room = omega (arith, longer, sound.room);
    len = omega (arith, sound.len, ap (λ (l : List Row). length l) (rows_left slots marks (length marks - length slots) slot n sound.counts before there), length-remove (present slots) n in_list);
  }
    where
      longer : length new ≡ length marks
      longer = ap (λ (l : List ℕ). length l) counts ∙ length-set marks slot (get_or marks slot 0 - 1)

      in_list : n < length (present slots)
      in_list = omega (arith, there, sum_is, sum_next marks slot, sum_by-take-le (λ (y : ℕ). y) marks (suc slot))

  -- where the slots without a row were taken out, and there is new room
  module _ (now : List (Option Row)) (new : List ℕ) (wanted : ℕ) (items : now ≡ filter (λ slot. is_some slot) slots) (le : size ≤ wanted)
      (counts : new ≡ replicate size 1 ++ replicate (wanted - size) 0) where
    pub length_now : length now ≡ size
    length_now = omega (arith, ap (λ (l : List (Option Row)). length l) items, length_kept slots, sound.len)

    pub length_new : length new ≡ wanted
    length_new =
        omega (arith, ap (λ (l : List ℕ). length l) counts, length-append {A = ℕ} (replicate size 1) (replicate (wanted - size) 0), length-replicate {A = ℕ} size 1, length-replicate {A = ℕ} (wanted - size) 0, le)

    pub compacted : (room : ℕ) → wanted ≤ room → AreShelved now new size room
    compacted room fits = record {
      counts = counts ∙ ap (λ n. replicate n 1 ++ replicate (wanted - size) 0) sound.len
          ∙ sym (counted_kept slots (wanted - size))
          ∙ ap (λ (l : List (Option Row)). counted l (wanted - size)) (sym items)
          ∙ ap (λ n. counted now n) (omega (arith, length_now, length_new));
      within = omega (arith, length_now, length_new, le);
      room = omega (arith, length_new, fits);
      len = sound.len ∙ ap (λ (l : List Row). length l) (sym (present_kept slots)) ∙ ap (λ (l : List (Option Row)). length (present l)) (sym items);
    }
