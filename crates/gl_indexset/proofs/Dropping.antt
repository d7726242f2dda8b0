-- A set less, in which no row was stored.
use Rattle.std.proofs.Common.{◌≡◌, ℕ, zero, suc, ◌+◌, ◌-◌, ◌<◌, ◌≤◌, ◌==◌, Bool, true, false, not, ◌&&◌, ◌||◌, cond, max, min, fold, List, [], ◌∷◌, length, get_or, map, filter, take, reverse, Option, Some, None, refl, sym, ◌∙◌, ap, subst, arith}
use Rattle.std.specs.List.{All, list_any}
use Rattle.std.specs.Str.{bytes_eq}
use Rattle.std.proofs.lemmas.Bool.Decides.{nat_tests}
use Rattle.gl_fields.specs.Fields.{comes_before}
use Rattle.gl_indexset.specs.declared.row.Row.{Row}
use Rattle.gl_fields.specs.declared.set_rule.SetRule.{SetRule}
use Rattle.gl_indexset.specs.declared.set.Index.{Index}
use Rattle.gl_indexset.specs.Retention.{Numbered, is_in, rows_of, numbered, numbers_of, live_rows, with_rule}
use Rattle.gl_indexset.specs.SetKept.{SetKept, is_held, is_held_by, oldest_after, oldest_of, starts_by, IsSetSound}
use Rattle.gl_indexset.specs.Kept.{Kept, rules_of, spare_of, is_known, without_unused, AreFalling, AreKnown, IsSound, Summarizes, StandsFor, indexes_of, shown}
use Rattle.gl_indexset.proofs.Sweeping.{if_true, if_false}
use Rattle.gl_indexset.proofs.Numbering.{Each, each_map_with, HeadFits, HeadOk, all_laid}
use Rattle.gl_indexset.proofs.Keeping.{take_none}
use Rattle.gl_indexset.proofs.Standing.{each_of, all_of, in_order, live_is, all_tell, falling_rows, TellsAll}
use Rattle.gl_indexset.proofs.Storing.{least-le, least_each, least_most}

pub each_filter : {X : Type 0} (P : X → Type 0) (p : X → Bool) (xs : List X) → Each P xs → Each P (filter p xs)
each_filter P p [] e = tt
each_filter P p (x ∷ xs) e = over (p x) (each_filter P p xs e.1)
  where
    over : (b : Bool) → Each P (filter p xs) → Each P (cond b (x ∷ filter p xs) (filter p xs))
    over true rest = (e.0, rest)
    over false rest = rest

-- a set that no row was stored in holds none
empty_set : (keep : ℕ) (newest : Index) (closed : List Index) → closed ≡ [] → (newest.rows == 0) ≡ true → oldest_after keep newest closed ≡ None
empty_set keep newest [] none unused = if_true ((newest.rows == 0) || (keep == 0)) None (Some newest.first) (first_true (newest.rows == 0) (keep == 0) unused)
  where
    first_true : (a b : Bool) → a ≡ true → (a || b) ≡ true
    first_true true b h = refl
    first_true false b h = cc h
empty_set keep newest (index ∷ closed) none unused = cc none

zero_test : (n : ℕ) → (n == 0) ≡ true → n ≡ 0
zero_test n h = grind (arith, nat_tests)

pub holds_none : (next : ℕ) (set : SetKept) → IsSetSound next set → (set.newest.rows == 0) ≡ true → (row : Row) → is_held_by row set ≡ false
holds_none next set sound unused row =
    ap (λ (o : Option ℕ). is_in set.rule row && starts_by o row.position) (empty_set set.rule.keep set.newest set.closed ((sound.starts (zero_test set.newest.rows unused)).1) unused)
    ∙ and_none (is_in set.rule row)
  where
    and_none : (a : Bool) → (a && false) ≡ false
    and_none true = refl
    and_none false = refl

-- a set was stored in just where one of all rows is in it
none_in : (rule : SetRule) (all : List Row) → rows_of rule all ≡ [] → list_any (is_in rule) all ≡ false
none_in rule [] none = refl
none_in rule (row ∷ all) none = over (is_in rule row) none (none_in rule all)
  where
    over : (b : Bool) → cond b (row ∷ rows_of rule all) (rows_of rule all) ≡ [] → (rows_of rule all ≡ [] → list_any (is_in rule) all ≡ false) → (b || list_any (is_in rule) all) ≡ false
    over true is rest = cc is
    over false is rest = rest is

some_in : (rule : SetRule) (all : List Row) (row : Row) (rows : List Row) → rows_of rule all ≡ row ∷ rows → list_any (is_in rule) all ≡ true
some_in rule [] row rows some = cc some
some_in rule (first ∷ all) row rows some = over (is_in rule first) some (some_in rule all row rows)
  where
    over : (b : Bool) → cond b (first ∷ rows_of rule all) (rows_of rule all) ≡ row ∷ rows → (rows_of rule all ≡ row ∷ rows → list_any (is_in rule) all ≡ true) → (b || list_any (is_in rule) all) ≡ true
    over true is rest = refl
    over false is rest = rest is

pub unused_is : (next : ℕ) (all : List Row) (set : SetKept) → AreFalling next all → Summarizes set (numbers_of set.rule all) → (set.newest.rows == 0) ≡ not (list_any (is_in set.rule) all)
unused_is next all set falling sum = over (rows_of set.rule all) refl (set.newest.rows == 0) refl
  where
    count : (n : ℕ) → 0 < n → n ≡ suc (n - 1)
    count n some = omega arith

    head : HeadOk (numbers_of set.rule all)
    head = (all_laid set.rule next (rows_of set.rule all) (falling_rows set.rule next all falling)).1

    no_index : (rows : List Numbered) (number : ℕ) (indexes : List Index) → HeadFits number rows indexes → [] ≡ take (max set.rule.keep 1) indexes → ⊥
    no_index rows number [] fits none = fits
    no_index rows number (index ∷ indexes) fits none = nothing (none ∙ ap (λ n. take n (index ∷ indexes)) (count (max set.rule.keep 1) (omega arith)))
      where
        nothing : [] ≡ index ∷ take (max set.rule.keep 1 - 1) indexes → ⊥
        nothing h = cc h

    there : (row : Row) (rows : List Row) → rows_of set.rule all ≡ row ∷ rows → [] ≡ shown set → ⊥
    there row rows is none = no_index (numbered set.rule (row ∷ rows)) _ (indexes_of (numbered set.rule (row ∷ rows)))
        (subst (λ (l : List Row). HeadOk (numbered set.rule l)) is head)
        (none ∙ sum.indexes ∙ ap (λ (l : List Row). take (max set.rule.keep 1) (indexes_of (numbered set.rule l))) is)

    shows_some : set.newest ∷ reverse set.closed ≡ [] → ⊥
    shows_some h = cc h

    over : (rows : List Row) → rows_of set.rule all ≡ rows → (b : Bool) → (set.newest.rows == 0) ≡ b → b ≡ not (list_any (is_in set.rule) all)
    over [] is true unused = sym (ap not (none_in set.rule all is))
    over (row ∷ rows) is false used = sym (ap not (some_in set.rule all row rows is))
    over (row ∷ rows) is true unused = absurd (there row rows is (sym (if_true (set.newest.rows == 0) [] (set.newest ∷ reverse set.closed) unused)))
    over [] is false used = absurd (shows_some (sym (if_false (set.newest.rows == 0) [] (set.newest ∷ reverse set.closed) used) ∙ sum.indexes
        ∙ ap (λ (l : List Row). take (max set.rule.keep 1) (indexes_of (numbered set.rule l))) is ∙ take_none (max set.rule.keep 1)))

-- which sets stay
abbrev pub stays : List ℕ → SetKept → Bool
stays name set = not (bytes_eq name set.rule.name && (set.newest.rows == 0))

goes_unused : (a b : Bool) → not (a && b) ≡ false → b ≡ true
goes_unused true true h = refl
goes_unused true false h = cc h
goes_unused false b h = cc h

no_more : (a b : Bool) → a ≡ false → (a || b) ≡ b
no_more true b is = cc is
no_more false b is = refl

pub held_filter : (next : ℕ) (name : List ℕ) (row : Row) (sets : List SetKept) → Each (IsSetSound next) sets → is_held (filter (stays name) sets) row ≡ is_held sets row
held_filter next name row [] e = refl
held_filter next name row (set ∷ sets) e = over (stays name set) refl (held_filter next name row sets e.1)
  where
    over : (b : Bool) → stays name set ≡ b → is_held (filter (stays name) sets) row ≡ is_held sets row
        → is_held (cond b (set ∷ filter (stays name) sets) (filter (stays name) sets)) row ≡ (is_held_by row set || is_held sets row)
    over true is rest = ap (λ b. is_held_by row set || b) rest
    over false is rest = rest ∙ sym (no_more (is_held_by row set) (is_held sets row)
        (holds_none next set e.0 (goes_unused (bytes_eq name set.rule.name) (set.newest.rows == 0) is) row))

-- the rules of the sets that stay
pub rules_filter : (next : ℕ) (all : List Row) (name : List ℕ) (sets : List SetKept) → AreFalling next all → Each (λ (s : SetKept). Summarizes s (numbers_of s.rule all)) sets
    → map (λ (s : SetKept). s.rule) (filter (stays name) sets) ≡ without_unused name all (map (λ (s : SetKept). s.rule) sets)
rules_filter next all name [] falling e = refl
rules_filter next all name (set ∷ sets) falling e =
    over (stays name set) (not (bytes_eq name set.rule.name && not (list_any (is_in set.rule) all))) (ap (λ b. not (bytes_eq name set.rule.name && b)) (unused_is next all set falling e.0)) (rules_filter next all name sets falling e.1)
  where
    over : (b c : Bool) → b ≡ c → map (λ (s : SetKept). s.rule) (filter (stays name) sets) ≡ without_unused name all (map (λ (s : SetKept). s.rule) sets)
        → map (λ (s : SetKept). s.rule) (cond b (set ∷ filter (stays name) sets) (filter (stays name) sets))
        ≡ cond c (set.rule ∷ without_unused name all (map (λ (s : SetKept). s.rule) sets)) (without_unused name all (map (λ (s : SetKept). s.rule) sets))
    over true true is rest = ap (λ (l : List SetRule). set.rule ∷ l) rest
    over true false is rest = cc is
    over false true is rest = cc is
    over false false is rest = rest

-- a name by which a row goes into a set stays known
any_at : {X : Type 0} (p : X → Bool) (xs : List X) (k : ℕ) (d : X) → k < length xs → p (get_or xs k d) ≡ true → list_any p xs ≡ true
any_at p [] k d lt is = absurd (omega (arith, lt))
any_at p (x ∷ xs) zero d lt is = ap (λ b. b || list_any p xs) is
any_at p (x ∷ xs) (suc k) d lt is = over (p x) (any_at p xs k d (omega (arith, lt)) is)
  where
    over : (b : Bool) → list_any p xs ≡ true → (b || list_any p xs) ≡ true
    over true h = refl
    over false h = h

or_later : (a b c : Bool) → (b ≡ true → c ≡ true) → (a || b) ≡ true → (a || c) ≡ true
or_later true b c gives h = refl
or_later false b c gives h = gives h

known_filter : (next : ℕ) (all : List Row) (name other : List ℕ) (sets : List SetKept) → AreFalling next all → Each (λ (s : SetKept). Summarizes s (numbers_of s.rule all)) sets
    → ((rule : SetRule) → bytes_eq other rule.name ≡ true → list_any (is_in rule) all ≡ true)
    → is_known (map (λ (s : SetKept). s.rule) sets) other ≡ true → is_known (map (λ (s : SetKept). s.rule) (filter (stays name) sets)) other ≡ true
known_filter next all name other [] falling e used h = h
known_filter next all name other (set ∷ sets) falling e used h = over (stays name set) refl (known_filter next all name other sets falling e.1 used)
  where
    second : (a b : Bool) → (a ≡ true → ⊥) → (a || b) ≡ true → b ≡ true
    second true b none h = absurd (none refl)
    second false b none h = h

    apart : (b : Bool) → b ≡ true → not b ≡ true → ⊥
    apart b h i = cc (sym (ap not h) ∙ i)

    over : (b : Bool) → stays name set ≡ b
        → (is_known (map (λ (s : SetKept). s.rule) sets) other ≡ true → is_known (map (λ (s : SetKept). s.rule) (filter (stays name) sets)) other ≡ true)
        → is_known (map (λ (s : SetKept). s.rule) (cond b (set ∷ filter (stays name) sets) (filter (stays name) sets))) other ≡ true
    over true is rest = or_later (bytes_eq other set.rule.name) (is_known (map (λ (s : SetKept). s.rule) sets) other) (is_known (map (λ (s : SetKept). s.rule) (filter (stays name) sets)) other) rest h
    over false is rest = rest (second (bytes_eq other set.rule.name) (is_known (map (λ (s : SetKept). s.rule) sets) other)
        (λ named. apart (list_any (is_in set.rule) all) (used set.rule named) (sym (unused_is next all set falling e.0) ∙ goes_unused (bytes_eq name set.rule.name) (set.newest.rows == 0) is)) h)

module _ (kept new : Kept) (name : List ℕ) (sound : IsSound kept) (sets : new.sets ≡ filter (stays name) kept.sets) (rows : new.rows ≡ kept.rows) (next : new.next ≡ kept.next) where
  each_sound : Each (IsSetSound kept.next) kept.sets
  each_sound = each_of (IsSetSound kept.next) kept.sets sound.sets

  sounds : Each (IsSetSound new.next) new.sets
  sounds = subst (λ n. Each (IsSetSound n) new.sets) (sym next) (subst (λ (l : List SetKept). Each (IsSetSound kept.next) l) (sym sets) (each_filter (IsSetSound kept.next) (stays name) kept.sets each_sound))

  held_alike : (row : Row) → is_held new.sets row ≡ is_held kept.sets row
  held_alike row = ap (λ (l : List SetKept). is_held l row) sets ∙ held_filter kept.next name row kept.sets each_sound

  pub dropped_sound : IsSound new
  dropped_sound = record {
    sets = all_of (IsSetSound new.next) new.sets sounds;
    rising = rw rows sound.rising;
    below = rw (rows, next) sound.below;
    held = rw rows (λ k d lt. held_alike (get_or kept.rows k d) ∙ sound.held k d lt);
  }

  pub dropped_spare : new.room ≡ kept.room → spare_of kept ≤ spare_of new
  dropped_spare room = least_most (spare_of kept) new.room new.sets (omega (arith, room, least-le kept.room kept.sets))
      (subst (λ (l : List SetKept). Each (λ (s : SetKept). spare_of kept ≤ s.spare) l) (sym sets)
      (each_filter (λ (s : SetKept). spare_of kept ≤ s.spare) (stays name) kept.sets (least_each kept.room kept.sets)))

  module _ (all : List Row) (stands : StandsFor kept all) where
    each_sum : Each (λ (s : SetKept). Summarizes s (numbers_of s.rule all)) kept.sets
    each_sum = each_of (λ (s : SetKept). Summarizes s (numbers_of s.rule all)) kept.sets stands.sets

    pub dropped_rules : rules_of new ≡ without_unused name all (rules_of kept)
    dropped_rules = ap (λ (l : List SetKept). map (λ (s : SetKept). s.rule) l) sets ∙ rules_filter kept.next all name kept.sets stands.falling each_sum

    summaries : Each (λ (s : SetKept). Summarizes s (numbers_of s.rule all)) new.sets
    summaries = subst (λ (l : List SetKept). Each (λ (s : SetKept). Summarizes s (numbers_of s.rule all)) l) (sym sets)
        (each_filter (λ (s : SetKept). Summarizes s (numbers_of s.rule all)) (stays name) kept.sets each_sum)

    tell_before : Each (TellsAll all all) kept.sets
    tell_before = each_map_with (IsSetSound kept.next) (λ (s : SetKept). Summarizes s (numbers_of s.rule all)) (TellsAll all all)
        (λ s is sum. all_tell kept.next all stands.falling s is sum) kept.sets each_sound each_sum

    tell_now : Each (TellsAll all all) new.sets
    tell_now = each_map_with (IsSetSound new.next) (λ (s : SetKept). Summarizes s (numbers_of s.rule all)) (TellsAll all all)
        (λ s is sum. all_tell new.next all (rw next stands.falling) s is sum) new.sets sounds summaries

    filter_alike : (p q : Row → Bool) → ((row : Row) → p row ≡ q row) → (l : List Row) → filter p l ≡ filter q l
    filter_alike p q same [] = refl
    filter_alike p q same (row ∷ l) =
        ap (λ b. cond b (row ∷ filter p l) (filter p l)) (same row) ∙ ap (λ (r : List Row). cond (q row) (row ∷ r) r) (filter_alike p q same l)

    named : (k : ℕ) (d : Row) (j : ℕ) (e : List ℕ) → k < length all → j < length (get_or all k d).sets → (rule : SetRule)
        → bytes_eq (get_or (get_or all k d).sets j e) rule.name ≡ true → list_any (is_in rule) all ≡ true
    named k d j e lt less rule is = any_at (is_in rule) all k d lt (any_at (λ (n : List ℕ). bytes_eq n rule.name) (get_or all k d).sets j e less is)

    pub dropped_stands : StandsFor new all
    dropped_stands = record {
      live = rows ∙ stands.live ∙ live_is all all kept.sets tell_before
          ∙ filter_alike (is_held kept.sets) (is_held new.sets) (λ row. sym (held_alike row)) (in_order all)
          ∙ sym (live_is all all new.sets tell_now);
      sets = all_of (λ (s : SetKept). Summarizes s (numbers_of s.rule all)) new.sets summaries;
      falling = rw next stands.falling;
      known = λ k d lt j e less. subst (λ (l : List SetKept). is_known (map (λ (s : SetKept). s.rule) l) (get_or (get_or all k d).sets j e) ≡ true) (sym sets)
          (known_filter kept.next all name (get_or (get_or all k d).sets j e) kept.sets stands.falling each_sum (named k d j e lt less) (stands.known k d lt j e less));
    }

-- what was added, and stored in by no row, is taken out again
or_none : (a b : Bool) → (a || b) ≡ false → (a ≡ false) × (b ≡ false)
or_none true b h = cc h
or_none false b h = (refl, h)

stays_by : (a b : Bool) → a ≡ false → not (a && b) ≡ true
stays_by true b h = cc h
stays_by false b h = refl

others_stay : (name : List ℕ) (all : List Row) (rules : List SetRule) → is_known rules name ≡ false → without_unused name all rules ≡ rules
others_stay name all [] unknown = refl
others_stay name all (rule ∷ rules) unknown =
    let none = or_none (bytes_eq name rule.name) (is_known rules name) unknown in
    if_true (not (bytes_eq name rule.name && not (list_any (is_in rule) all))) (rule ∷ without_unused name all rules) (without_unused name all rules) (stays_by (bytes_eq name rule.name) (not (list_any (is_in rule) all)) none.0)
    ∙ ap (λ (l : List SetRule). rule ∷ l) (others_stay name all rules none.1)

module _ (all : List Row) (rule : SetRule) (same : bytes_eq rule.name rule.name ≡ true) (unused : list_any (is_in rule) all ≡ false) where
  taken : (rules : List SetRule) → without_unused rule.name all (rule ∷ rules) ≡ without_unused rule.name all rules
  taken rules = if_false (not (bytes_eq rule.name rule.name && not (list_any (is_in rule) all))) (rule ∷ without_unused rule.name all rules) (without_unused rule.name all rules)
      (ap (λ b. not (b && not (list_any (is_in rule) all))) same ∙ ap (λ b. not (true && not b)) unused)

  pub undone : (rules : List SetRule) → is_known rules rule.name ≡ false → without_unused rule.name all (with_rule rule rules) ≡ rules
  undone [] unknown = taken []
  undone (first ∷ rest) unknown = over (comes_before rule.name first.name) (undone rest ((or_none (bytes_eq rule.name first.name) (is_known rest rule.name) unknown).1))
    where
      none : (bytes_eq rule.name first.name ≡ false) × (is_known rest rule.name ≡ false)
      none = or_none (bytes_eq rule.name first.name) (is_known rest rule.name) unknown

      over : (b : Bool) → without_unused rule.name all (with_rule rule rest) ≡ rest → without_unused rule.name all (cond b (rule ∷ (first ∷ rest)) (first ∷ with_rule rule rest)) ≡ first ∷ rest
      over true so_far = taken (first ∷ rest) ∙ others_stay rule.name all (first ∷ rest) unknown
      over false so_far =
          if_true (not (bytes_eq rule.name first.name && not (list_any (is_in first) all))) (first ∷ without_unused rule.name all (with_rule rule rest)) (without_unused rule.name all (with_rule rule rest))
          (stays_by (bytes_eq rule.name first.name) (not (list_any (is_in first) all)) none.0)
          ∙ ap (λ (l : List SetRule). first ∷ l) so_far
