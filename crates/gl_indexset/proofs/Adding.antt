-- A set more, which has no rows.
use Rattle.std.proofs.Common.{◌≡◌, ℕ, zero, suc, ◌+◌, ◌≤◌, Bool, true, false, not, ◌==◌, ◌&&◌, ◌||◌, cond, ltb, max, List, [], ◌∷◌, length, get_or, map, filter, take, reverse, Some, None, unwrap_or, refl, sym, ◌∙◌, ap, subst, arith}
use Rattle.std.specs.List.{All, list_any, insert, position, position_or_len}
use Rattle.std.specs.Str.{bytes_eq}
use Rattle.gl_indexset.specs.declared.set.Index.{Index}
use Rattle.std.proofs.lemmas.Bool.Decides.{nat_tests}
use Rattle.std.proofs.lemmas.Slice.Eq.{bytes_eq-Decides}
use Rattle.std.proofs.lemmas.List.Elements.{All-head, All-tail}
use Rattle.gl_fields.specs.Fields.{comes_before}
use Rattle.gl_indexset.specs.declared.row.Row.{Row}
use Rattle.gl_fields.specs.declared.set_rule.SetRule.{SetRule}
use Rattle.gl_indexset.specs.Retention.{Numbered, is_in, newest_number, rows_of, numbered, numbers_of, with_rule}
use Rattle.gl_indexset.specs.SetKept.{SetKept, is_held, is_held_by, oldest_of, starts_by, IsSetSound}
use Rattle.gl_indexset.specs.Kept.{Kept, rules_of, is_known, AreKnown, IsSound, Summarizes, StandsFor, indexes_of}
use Rattle.gl_indexset.proofs.Numbering.{Each, each_map_with}
use Rattle.gl_indexset.proofs.Keeping.{take_none}
use Rattle.gl_indexset.proofs.Standing.{each_of, all_of, in_order, live_is, all_tell, TellsAll}

pub each_insert : {X : Type 0} (P : X → Type 0) (x : X) (xs : List X) (at : ℕ) → P x → Each P xs → Each P (insert xs at x)
each_insert P x [] zero here e = (here, tt)
each_insert P x [] (suc at) here e = (here, tt)
each_insert P x (y ∷ xs) zero here e = (here, e)
each_insert P x (y ∷ xs) (suc at) here e = (e.0, each_insert P x xs at here e.1)

-- an index that is given by a test
place_le : {X : Type 0} (p : X → Bool) (xs : List X) → position_or_len p xs ≤ length xs
place_le p [] = omega arith
place_le p (x ∷ xs) = over (p x) (place_le p xs)
  where
    over : (b : Bool) → position_or_len p xs ≤ length xs → cond (not b) (1 + position_or_len p xs) 0 ≤ suc (length xs)
    over true le = omega arith
    over false le = omega arith

pub place_is : {X : Type 0} (p : X → Bool) (xs : List X) → unwrap_or (position p xs) (length xs) ≡ position_or_len p xs
place_is p xs = over (position_or_len p xs) (length xs) (place_le p xs)
  where
    over : (j n : ℕ) → j ≤ n → unwrap_or {T = ℕ} (cond (ltb j n) (Some j) None) n ≡ j
    over j n le = by_test (ltb j n) refl
      where
        by_test : (b : Bool) → ltb j n ≡ b → unwrap_or {T = ℕ} (cond b (Some j) None) n ≡ j
        by_test true is = refl
        by_test false is = same j n is le
          where
            same : (i m : ℕ) → ltb i m ≡ false → i ≤ m → m ≡ i
            same i m is le = grind (arith, nat_tests)

abbrev pub after : SetRule → SetKept → Bool
after rule set = comes_before rule.name set.rule.name

pub rules_insert : (set : SetKept) (sets : List SetKept)
    → map (λ (s : SetKept). s.rule) (insert sets (position_or_len (after set.rule) sets) set) ≡ with_rule set.rule (map (λ (s : SetKept). s.rule) sets)
rules_insert set [] = refl
rules_insert set (x ∷ sets) = over (after set.rule x) (rules_insert set sets)
  where
    over : (b : Bool) → map (λ (s : SetKept). s.rule) (insert sets (position_or_len (after set.rule) sets) set) ≡ with_rule set.rule (map (λ (s : SetKept). s.rule) sets)
        → map (λ (s : SetKept). s.rule) (insert (x ∷ sets) (cond (not b) (1 + position_or_len (after set.rule) sets) 0) set)
        ≡ cond b (set.rule ∷ (x.rule ∷ map (λ (s : SetKept). s.rule) sets)) (x.rule ∷ with_rule set.rule (map (λ (s : SetKept). s.rule) sets))
    over true so_far = refl
    over false so_far =
        ap (λ n. map (λ (s : SetKept). s.rule) (insert (x ∷ sets) n set)) (next (position_or_len (after set.rule) sets))
        ∙ ap (λ (l : List SetRule). x.rule ∷ l) so_far
      where
        next : (n : ℕ) → 1 + n ≡ suc n
        next n = omega arith

no_more : (a b : Bool) → a ≡ false → (a || b) ≡ b
no_more true b is = cc is
no_more false b is = refl

and_none : (a : Bool) → (a && false) ≡ false
and_none true = refl
and_none false = refl

or_swap : (a b c : Bool) → a ≡ false → (b || c) ≡ (b || c)
or_swap a b c is = refl

-- a set without rows holds none
pub held_insert : (row : Row) (set : SetKept) (sets : List SetKept) (at : ℕ) → is_held_by row set ≡ false → is_held (insert sets at set) row ≡ is_held sets row
held_insert row set [] zero none = no_more (is_held_by row set) false none
held_insert row set [] (suc at) none = no_more (is_held_by row set) false none
held_insert row set (x ∷ sets) zero none = no_more (is_held_by row set) (is_held (x ∷ sets) row) none
held_insert row set (x ∷ sets) (suc at) none = ap (λ b. is_held_by row x || b) (held_insert row set sets at none)

or_true : (a b : Bool) → b ≡ true → (a || b) ≡ true
or_true true b h = refl
or_true false b h = h

or_later : (a b c : Bool) → (b ≡ true → c ≡ true) → (a || b) ≡ true → (a || c) ≡ true
or_later true b c gives h = refl
or_later false b c gives h = gives h

known_more : (name : List ℕ) (set : SetKept) (sets : List SetKept) (at : ℕ) → is_known (map (λ (s : SetKept). s.rule) sets) name ≡ true
    → is_known (map (λ (s : SetKept). s.rule) (insert sets at set)) name ≡ true
known_more name set [] at h = cc h
known_more name set (x ∷ sets) zero h = or_true (bytes_eq name set.rule.name) (is_known (map (λ (s : SetKept). s.rule) (x ∷ sets)) name) h
known_more name set (x ∷ sets) (suc at) h =
    or_later (bytes_eq name x.rule.name) (is_known (map (λ (s : SetKept). s.rule) sets) name) (is_known (map (λ (s : SetKept). s.rule) (insert sets at set)) name) (known_more name set sets at) h

new_name : (rule : SetRule) (sets : List SetKept) (names : List (List ℕ)) → is_known (map (λ (s : SetKept). s.rule) sets) rule.name ≡ false
    → All (λ name. is_known (map (λ (s : SetKept). s.rule) sets) name ≡ true) names → list_any (λ name. bytes_eq name rule.name) names ≡ false
new_name rule sets [] fresh known = refl
new_name rule sets (name ∷ names) fresh known =
    both (bytes_eq name rule.name) (list_any (λ n. bytes_eq n rule.name) names)
    (differs (bytes_eq name rule.name) refl)
    (new_name rule sets names fresh (All-tail (λ n. is_known (map (λ (s : SetKept). s.rule) sets) n ≡ true) name names known))
  where
    both : (a b : Bool) → a ≡ false → b ≡ false → (a || b) ≡ false
    both true b h i = cc h
    both false b h i = i

    apart : (a : Bool) → a ≡ true → a ≡ false → ⊥
    apart a h i = cc (sym h ∙ i)

    differs : (b : Bool) → bytes_eq name rule.name ≡ b → bytes_eq name rule.name ≡ false
    differs true is = absurd (apart (is_known (map (λ (s : SetKept). s.rule) sets) name) (All-head (λ n. is_known (map (λ (s : SetKept). s.rule) sets) n ≡ true) name names known)
        (ap (λ (n : List ℕ). is_known (map (λ (s : SetKept). s.rule) sets) n) ((bytes_eq-Decides name rule.name).0 is) ∙ fresh))
    differs false is = is

no_rows : (rule : SetRule) (sets : List SetKept) (all : List Row) → is_known (map (λ (s : SetKept). s.rule) sets) rule.name ≡ false
    → All (λ (row : Row). AreKnown (map (λ (s : SetKept). s.rule) sets) row.sets) all → rows_of rule all ≡ []
no_rows rule sets [] fresh known = refl
no_rows rule sets (row ∷ all) fresh known =
    over (is_in rule row) (new_name rule sets row.sets fresh (All-head (λ (r : Row). AreKnown (map (λ (s : SetKept). s.rule) sets) r.sets) row all known))
    (no_rows rule sets all fresh (All-tail (λ (r : Row). AreKnown (map (λ (s : SetKept). s.rule) sets) r.sets) row all known))
  where
    over : (b : Bool) → b ≡ false → rows_of rule all ≡ [] → ◌≡◌ {A = List Row} (cond b (row ∷ rows_of rule all) (rows_of rule all)) []
    over true is none = cc is
    over false is none = none

module _ (kept new : Kept) (set : SetKept) (at : ℕ) (sound : IsSound kept)
    (number : set.number ≡ 0) (newest : set.newest ≡ record { first = 0; moment = 0; rows = 0 }) (closed : set.closed ≡ [])
    (sets : new.sets ≡ insert kept.sets at set) (rows : new.rows ≡ kept.rows) (next : new.next ≡ kept.next) where
  holds_none : (row : Row) → is_held_by row set ≡ false
  holds_none row = ap (λ (s : SetKept). is_in set.rule row && starts_by (oldest_of s) row.position) set_is ∙ and_none (is_in set.rule row)
    where
      set_is : set ≡ record { rule = set.rule; number = set.number; newest = record { first = 0; moment = 0; rows = 0 }; closed = []; spare = set.spare }
      set_is = ap (λ (i : Index). let s : SetKept = record { rule = set.rule; number = set.number; newest = i; closed = set.closed; spare = set.spare } in s) newest
          ∙ ap (λ (l : List Index). let s : SetKept = record { rule = set.rule; number = set.number; newest = record { first = 0; moment = 0; rows = 0 }; closed = l; spare = set.spare } in s) closed

  held_alike : (row : Row) → is_held new.sets row ≡ is_held kept.sets row
  held_alike row = ap (λ (l : List SetKept). is_held l row) sets ∙ held_insert row set kept.sets at (holds_none row)

  set_sound : IsSetSound new.next set
  set_sound = record {
    above = rw newest (omega arith);
    number = rw (number, newest) (omega arith);
    closed = rw (closed, number) (omega arith);
    lined = rw (closed, newest) (omega arith);
    starts = λ none. (number, closed);
  }

  each_sound : Each (IsSetSound new.next) new.sets
  each_sound = subst (λ (l : List SetKept). Each (IsSetSound new.next) l) (sym sets)
      (each_insert (IsSetSound new.next) set kept.sets at set_sound (subst (λ n. Each (IsSetSound n) kept.sets) (sym next) (each_of (IsSetSound kept.next) kept.sets sound.sets)))

  pub added_sound : IsSound new
  added_sound = record {
    sets = all_of (IsSetSound new.next) new.sets each_sound;
    rising = rw rows sound.rising;
    below = rw (rows, next) sound.below;
    held = rw rows (λ k d lt. held_alike (get_or kept.rows k d) ∙ sound.held k d lt);
  }

  pub added_stands : is_known (rules_of kept) set.rule.name ≡ false → (all : List Row) → StandsFor kept all → StandsFor new all
  added_stands fresh all stands = record {
    live = rows ∙ stands.live ∙ live_is all all kept.sets tell_before
        ∙ filter_alike (is_held kept.sets) (is_held new.sets) (λ row. sym (held_alike row)) (in_order all)
        ∙ sym (live_is all all new.sets tell_now);
    sets = all_of (λ (s : SetKept). Summarizes s (numbers_of s.rule all)) new.sets summaries;
    falling = rw next stands.falling;
    known = λ k d lt j e less. subst (λ (l : List SetRule). is_known l (get_or (get_or all k d).sets j e) ≡ true) (sym (ap (λ (l : List SetKept). map (λ (s : SetKept). s.rule) l) sets))
        (known_more (get_or (get_or all k d).sets j e) set kept.sets at (stands.known k d lt j e less));
  }
    where
      each_sum : Each (λ (s : SetKept). Summarizes s (numbers_of s.rule all)) kept.sets
      each_sum = each_of (λ (s : SetKept). Summarizes s (numbers_of s.rule all)) kept.sets stands.sets

      none : numbers_of set.rule all ≡ []
      none = ap (λ (l : List Row). numbered set.rule l) (no_rows set.rule kept.sets all fresh stands.known)

      summary : Summarizes set (numbers_of set.rule all)
      summary = record {
        number = number ∙ ap (λ (l : List Numbered). newest_number l) (sym none);
        indexes = ap (λ (i : Index). cond (i.rows == 0) [] (i ∷ reverse set.closed)) newest
            ∙ sym (take_none (max set.rule.keep 1)) ∙ ap (λ (l : List Numbered). take (max set.rule.keep 1) (indexes_of l)) (sym none);
      }

      summaries : Each (λ (s : SetKept). Summarizes s (numbers_of s.rule all)) new.sets
      summaries = subst (λ (l : List SetKept). Each (λ (s : SetKept). Summarizes s (numbers_of s.rule all)) l) (sym sets)
          (each_insert (λ (s : SetKept). Summarizes s (numbers_of s.rule all)) set kept.sets at summary each_sum)

      tell_before : Each (TellsAll all all) kept.sets
      tell_before = each_map_with (IsSetSound kept.next) (λ (s : SetKept). Summarizes s (numbers_of s.rule all)) (TellsAll all all)
          (λ s is sum. all_tell kept.next all stands.falling s is sum) kept.sets (each_of (IsSetSound kept.next) kept.sets sound.sets) each_sum

      tell_now : Each (TellsAll all all) new.sets
      tell_now = each_map_with (IsSetSound new.next) (λ (s : SetKept). Summarizes s (numbers_of s.rule all)) (TellsAll all all)
          (λ s is sum. all_tell new.next all (rw next stands.falling) s is sum) new.sets each_sound summaries

      filter_alike : (p q : Row → Bool) → ((row : Row) → p row ≡ q row) → (l : List Row) → filter p l ≡ filter q l
      filter_alike p q same [] = refl
      filter_alike p q same (row ∷ l) =
          ap (λ b. cond b (row ∷ filter p l) (filter p l)) (same row) ∙ ap (λ (r : List Row). cond (q row) (row ∷ r) r) (filter_alike p q same l)

-- a set of a name has a rule of it
pub known_by_set : (name : List ℕ) (sets : List SetKept) → list_any (λ (s : SetKept). bytes_eq name s.rule.name) sets ≡ is_known (map (λ (s : SetKept). s.rule) sets) name
known_by_set name [] = refl
known_by_set name (set ∷ sets) = ap (λ b. bytes_eq name set.rule.name || b) (known_by_set name sets)
