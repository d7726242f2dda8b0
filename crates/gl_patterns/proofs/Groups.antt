-- The cells of a match give its groups, and each group lies in the text between characters.
use Rattle.std.proofs.Common.{◌≡◌, ℕ, zero, suc, ◌+◌, ◌-◌, ◌*◌, ◌<◌, ◌≤◌, ◌==◌, List, [], ◌∷◌, length, All, Option, Some, None, IfSome, slice_index, IsUtf8, IsCharBoundary, refl, sym, ap, ap₂, ◌∙◌, subst, ⊎_elim, inl, inr, arith, ne_eqb}
use Rattle.std.specs.Prelude.{option_and_then, option_map}
use Rattle.std.specs.Option.{option_or}
use Rattle.std.proofs.lemmas.Bool.{cond-false, cases_lt}
use Rattle.std.proofs.lemmas.List.{get_or_past}
use Rattle.std.proofs.lemmas.List.Elements.{All-head, All-tail, All-weaker}
use Rattle.std.proofs.lemmas.List.FromFn.{length-map-range_with_len, get_or-map-range_with_len}
use Rattle.regex_hir.specs.Re.{Re, accept, attempt}
use Rattle.regex_hir.specs.Find.{Match, find_str, last_write, slot_of}
use Rattle.regex_hir.specs.Text.{is_boundary}
use Rattle.regex_hir.proofs.AttemptLemmas.{cond_some}
use Rattle.regex_hir.proofs.FindLemmas.{IsFirst-of_first_between}
use Rattle.regex_hir.proofs.OptionLemmas.{option_or-None}
use Rattle.regex_meta.proofs.LeftmostLemmas.{attempt_fits}
use Rattle.regex_meta.proofs.ProgramLemmas.{none_of_option_map, value_of_option_map}
use Rattle.gl_patterns.proofs.Searches.{at_some}
use Rattle.regex_vm.specs.Found.{span, cell, group_cells}
use Rattle.regex.specs.Writes.{HasTextParts, IsTidy, both, group_of}
use Rattle.regex.proofs.Utf8Lemmas.{IsCharBoundary-of_test, match_ends_cleanly}
use Rattle.regex.proofs.WritesLemmas.{last_write_has, writes_are_tidy_in_text}
use Rattle.gl_patterns.specs.Built.{FitsCells}
use Rattle.gl_patterns.specs.Cells.{held, span_in_cells}
use Rattle.gl_patterns.specs.Patterns.{span_of, CutsIn}

held_cell : (o : Option ℕ) → held (cell o) ≡ o
held_cell None = refl
held_cell (Some i) =
    let back : i + 1 - 1 ≡ i = omega arith in
    cond-false (i + 1 == 0) None _ (ne_eqb (i + 1) 0 (omega arith)) ∙ ap Some back

slot_is : (m : Match) (slot : ℕ) → 2 ≤ slot → slot_of m slot ≡ last_write m.trace.writes slot
unfolding slot_of
slot_is m slot high =
    ap₂ option_or
    (ap (option_or (last_write m.trace.writes slot)) (cond-false (1 == slot) (Some m.trace.end) None (ne_eqb 1 slot (omega arith)))
    ∙ option_or-None _)
    (cond-false (0 == slot) (Some m.start) None (ne_eqb 0 slot (omega arith)))
    ∙ option_or-None _

unwritten : (ws : List (ℕ × ℕ)) (slot : ℕ) → All (λ (w : ℕ × ℕ). w.0 < slot) ws → last_write ws slot ≡ None
unwritten [] slot all = refl
unwritten (w ∷ ws) slot all =
    let here = All-head (λ (v : ℕ × ℕ). v.0 < slot) w ws all in
    ap₂ option_or (unwritten ws slot (All-tail (λ (v : ℕ × ℕ). v.0 < slot) w ws all)) (cond-false (w.0 == slot) (Some w.1) None (ne_eqb w.0 slot (omega arith)))

-- a cell holds what the match wrote last to its slot, also past the cells
held_at : (m : Match) (width k : ℕ) → All (λ (w : ℕ × ℕ). w.0 < width + 2) m.trace.writes →
    held (slice_index (group_cells m width) k) ≡ last_write m.trace.writes (k + 2)
unfolding group_cells
held_at m width k fit = elim (cases_lt k width) [
  | inl low ↦
      ap held (get_or-map-range_with_len (λ j. cell (last_write m.trace.writes (j + 2))) 0 width k k 0 low (omega arith)) ∙ held_cell _
  | inr high ↦
      let size : length (group_cells m width) ≡ width = length-map-range_with_len (λ j. cell (last_write m.trace.writes (j + 2))) 0 width in
      ap held (get_or_past (group_cells m width) k 0 (omega (arith, size)))
      ∙ sym (unwritten m.trace.writes (k + 2) (All-weaker (λ (w : ℕ × ℕ). w.0 < width + 2) (λ w. w.0 < k + 2) (λ w h. omega arith) m.trace.writes fit))
]

slots_are : (m : Match) (n : ℕ) → 1 ≤ n → group_of m n ≡ both (last_write m.trace.writes (2 * n)) (last_write m.trace.writes (2 * n + 1))
slots_are m n low = ap₂ both (slot_is m (2 * n) (omega arith)) (slot_is m (2 * n + 1) (omega arith))

from_one : (m : Match) (width n : ℕ) → All (λ (w : ℕ × ℕ). w.0 < width + 2) m.trace.writes → 1 ≤ n →
    both (held (slice_index (group_cells m width) (2 * n - 2))) (held (slice_index (group_cells m width) (2 * n - 1))) ≡ group_of m n
from_one m width n fit low =
    let first : 2 * n - 2 + 2 ≡ 2 * n = omega arith in
    let last : 2 * n - 1 + 2 ≡ 2 * n + 1 = omega arith in
    ap₂ both
    (held_at m width (2 * n - 2) fit ∙ ap (last_write m.trace.writes) first)
    (held_at m width (2 * n - 1) fit ∙ ap (last_write m.trace.writes) last)
    ∙ sym (slots_are m n low)

span_is : (m : Match) (width n : ℕ) → All (λ (w : ℕ × ℕ). w.0 < width + 2) m.trace.writes →
    span_in_cells (span m) (group_cells m width) n ≡ span_of n m
span_is m width zero fit = refl
span_is m width (suc n) fit =
    let other = ne_eqb (suc n) 0 (omega arith) in
    cond-false (suc n == 0) (Some (span m)) _ other ∙ from_one m width (suc n) fit (omega arith)
    ∙ sym (cond-false (suc n == 0) (Some (span m)) (group_of m (suc n)) other)

group_cuts : (hay : List ℕ) (m : Match) (n : ℕ) → IsTidy (IsCharBoundary hay) m.start m.trace.end m.trace.writes → m.trace.end ≤ length hay → 1 ≤ n →
    IfSome (group_of m n) (CutsIn hay)
group_cuts hay m n tidy inside low =
    let writes = m.trace.writes in
    let Placed : ℕ → Type 0 = λ x. (m.start ≤ x) × (x ≤ m.trace.end) × IsCharBoundary hay x in
    ⊎_elim
    (λ unset. subst (λ o. IfSome o (CutsIn hay)) (sym (slots_are m n low ∙ ap₂ both unset.0 unset.1)) tt)
    (λ set.
    let first = last_write_has Placed writes (2 * n) set.0 tidy.placed set.2 in
    let last = last_write_has Placed writes (2 * n + 1) set.1 tidy.placed set.3 in
    let upto : set.1 ≤ length hay = omega (arith, last.1) in
    subst (λ o. IfSome o (CutsIn hay)) (sym (slots_are m n low ∙ ap₂ both set.2 set.3)) (set.4, upto, first.2, last.2))
    (tidy.paired n)

module _ (re : Re) (hay : List ℕ) (bytes : All (λ b. b < 256) hay) (utf8 : IsUtf8 hay) (parts : HasTextParts re) (m : Match)
    (found : find_str re hay 0 ≡ Some m) where
  here : (m.start ≤ length hay) × IsCharBoundary hay m.start × (attempt hay re accept m.start ≡ Some m.trace)
  unfolding find_str
  here =
      let first = IsFirst-of_first_between _ 0 (length hay) m found in
      let both_hold = cond_some (is_boundary hay m.start) _ m.trace first.here in
      (first.to, IsCharBoundary-of_test hay m.start first.to both_hold.0, both_hold.1)

  spans_cut : (n : ℕ) → IfSome (span_of n m) (CutsIn hay)
  spans_cut zero =
      let fit = attempt_fits re hay m.start m.trace here.0 here.2 in
      (fit.0, fit.1, here.1, match_ends_cleanly re hay bytes ∣ parts ∣₁ utf8 m.start m.trace here.1 here.2)
  spans_cut (suc n) =
      let fit = attempt_fits re hay m.start m.trace here.0 here.2 in
      let other = ne_eqb (suc n) 0 (omega arith) in
      subst (λ o. IfSome o (CutsIn hay)) (sym (cond-false (suc n == 0) (Some (span m)) (group_of m (suc n)) other))
      (group_cuts hay m (suc n) (writes_are_tidy_in_text hay re m.start m.trace utf8 parts here.1 here.2) fit.1 (omega arith))

  -- what the cells give, where they take all that the match writes
  pub group_is : (width n : ℕ) (whole : ℕ × ℕ) (cells : List ℕ) → FitsCells re width → whole ≡ span m → cells ≡ group_cells m width →
      (span_in_cells whole cells n ≡ option_and_then (span_of n) (find_str re hay 0)) × IfSome (span_in_cells whole cells n) (CutsIn hay)
  group_is width n whole cells room spans filled =
      let is : span_in_cells whole cells n ≡ span_of n m =
      ap₂ (λ w c. span_in_cells w c n) spans filled ∙ span_is m width n (room hay m.start m.trace here.2) in
      (is ∙ sym (ap (option_and_then (span_of n)) found), subst (λ o. IfSome o (CutsIn hay)) (sym is) (spans_cut n))

-- a group of the first match in a text, and where it lies
abbrev pub SpansGroup : Re → ℕ → Option (ℕ × ℕ) → List ℕ → Type 0
SpansGroup re n o hay = (o ≡ option_and_then (span_of n) (find_str re hay 0)) × IfSome o (CutsIn hay)

pub first_group : (re : Re) (hay : List ℕ) → All (λ b. b < 256) hay → IsUtf8 hay → HasTextParts re → (width n : ℕ) (whole : ℕ × ℕ) (cells : List ℕ) →
    FitsCells re width → Some whole ≡ option_map span (find_str re hay 0) → IfSome (find_str re hay 0) (λ m. cells ≡ group_cells m width) →
    SpansGroup re n (span_in_cells whole cells n) hay
first_group re hay bytes utf8 parts width n whole cells room spans filled =
    let v = value_of_option_map span (find_str re hay 0) whole (sym spans) in
    group_is re hay bytes utf8 parts v.0 v.1 width n whole cells room (sym v.2) (at_some (λ m. cells ≡ group_cells m width) (find_str re hay 0) v.0 v.1 filled)

-- where there is no match, no group spans anything
pub no_group : (re : Re) (hay : List ℕ) (n : ℕ) → None ≡ option_map span (find_str re hay 0) → option_and_then (span_of n) (find_str re hay 0) ≡ None
no_group re hay n e = ap (option_and_then (span_of n)) (none_of_option_map span (find_str re hay 0) (sym e))

-- the same of a text that was searched as these bytes
pub first_group_in : (re : Re) (hay text : List ℕ) → hay ≡ text → All (λ b. b < 256) text → IsUtf8 hay → HasTextParts re → (width n : ℕ) (whole : ℕ × ℕ) (cells : List ℕ) →
    FitsCells re width → Some whole ≡ option_map span (find_str re hay 0) → IfSome (find_str re hay 0) (λ m. cells ≡ group_cells m width) →
    SpansGroup re n (span_in_cells whole cells n) text
first_group_in re hay text same bytes utf8 parts width n whole cells room spans filled =
    subst (SpansGroup re n (span_in_cells whole cells n)) same
    (first_group re hay (subst (All (λ b. b < 256)) (sym same) bytes) utf8 parts width n whole cells room spans filled)
