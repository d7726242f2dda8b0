-- What is kept after a row was stored.
use Rattle.std.proofs.Common.{◌≡◌, ℕ, ◌+◌, ◌-◌, ◌<◌, ◌≤◌, Bool, true, false, cond, nat_le, min, List, [], ◌∷◌, ◌++◌, length, map, filter, fold, sym, ◌∙◌, ap, subst, arith}
use Rattle.std.specs.List.{All, AllPairs, list_any}
use Rattle.std.proofs.lemmas.List.{append-nil}
use Rattle.std.proofs.lemmas.List.Elements.{All-cons, All-filter, All-push, filter-append, filter_passes}
use Rattle.std.proofs.lemmas.List.Kept.{AllPairs-filter}
use Rattle.std.proofs.lemmas.List.Quantifiers.{all_pairs_push}
use Rattle.gl_indexset.specs.declared.row.Row.{Row}
use Rattle.gl_fields.specs.declared.set_rule.SetRule.{SetRule}
use Rattle.gl_indexset.specs.Retention.{numbers_of, is_live_in, live_rows}
use Rattle.gl_indexset.specs.SetKept.{SetKept, is_held, goes, stored, IsSetSound, IsReadyFor}
use Rattle.gl_indexset.specs.Kept.{Kept, rules_of, spare_of, AreFalling, AreKnown, IsSound, Summarizes, StandsFor}
use Rattle.gl_indexset.specs.Retention.{is_in}
use Rattle.gl_indexset.proofs.Sweeping.{by_cases, filter_wider}
use Rattle.gl_indexset.proofs.Numbering.{Each, each_map, each_map_with}
use Rattle.gl_indexset.proofs.Standing.{each_of, all_of, in_order, live_is, some_live, all_tell, TellsAll, goes_sound, goes_summarizes, rules_stay, held_earlier, falling_more}

each_over : {X Y : Type 0} (P : Y → Type 0) (f : X → Y) (xs : List X) → Each (λ x. P (f x)) xs → Each P (map f xs)
each_over P f [] e = tt
each_over P f (x ∷ xs) e = (e.0, each_over P f xs e.1)

falling_each : (next : ℕ) (rows : List Row) → AreFalling next rows → Each (λ (row : Row). row.position < next) rows
falling_each next [] falling = tt
falling_each next (row ∷ before) falling =
    (falling.0, each_map (λ (r : Row). r.position < row.position) (λ (r : Row). r.position < next) (λ r lt. omega (arith, lt, falling.0)) before (falling_each row.position before falling.1))

ordered : (P : Row → Type 0) (rows : List Row) → Each P rows → All P (in_order rows)
ordered P [] e = λ k d lt. absurd (omega arith)
ordered P (row ∷ before) e = All-push P (in_order before) row (ordered P before e.1) e.0

tail_if : (b : Bool) (row : Row) (sets : List SetKept) → is_held sets row ≡ b → filter (is_held sets) (row ∷ []) ≡ cond b (row ∷ []) []
tail_if b row sets is = ap (λ c. cond c (row ∷ []) []) is

-- the least number of rows that there is room for
abbrev pub least : ℕ → List SetKept → ℕ
least room sets = fold (λ (n : ℕ) (s : SetKept). min n s.spare) room sets

pub least-le : (room : ℕ) (sets : List SetKept) → least room sets ≤ room
least-le room [] = omega arith
least-le room (set ∷ sets) = omega (arith, least-le (min room set.spare) sets)

pub least_each : (room : ℕ) (sets : List SetKept) → Each (λ (s : SetKept). least room sets ≤ s.spare) sets
least_each room [] = tt
least_each room (set ∷ sets) = (omega (arith, least-le (min room set.spare) sets), least_each (min room set.spare) sets)

pub least_most : (n room : ℕ) (sets : List SetKept) → n ≤ room → Each (λ (s : SetKept). n ≤ s.spare) sets → n ≤ least room sets
least_most n room [] le e = le
least_most n room (set ∷ sets) le e = least_most n (min room set.spare) sets (omega (arith, le, e.0)) e.1

one_less : (row : Row) (set : SetKept) → set.spare ≤ (goes row set).spare + 1
one_less row set = over (is_in set.rule row)
  where
    turned : (b : Bool) (n : ℕ) → n ≤ cond b n (n - 1) + 1
    turned true n = omega arith
    turned false n = omega arith

    over : (b : Bool) → set.spare ≤ (cond b (stored row.position row.moment set) set).spare + 1
    over true = by_cases row.position row.moment set (λ (s : SetKept). set.spare ≤ s.spare + 1)
        (λ none. omega arith) (λ some full. turned (nat_le set.rule.keep (length set.closed + 1)) set.spare) (λ some full. omega arith)
    over false = omega arith

module _ (kept : Kept) (row : Row) (sound : IsSound kept) (above : kept.next ≤ row.position) where
  each_sound : Each (IsSetSound kept.next) kept.sets
  each_sound = each_of (IsSetSound kept.next) kept.sets sound.sets

  pub ready : 0 < spare_of kept → All (IsReadyFor row.position) kept.sets
  ready some = all_of (IsReadyFor row.position) kept.sets
      (each_map_with (λ (s : SetKept). least kept.room kept.sets ≤ s.spare) (IsSetSound kept.next) (IsReadyFor row.position)
      (λ s le is. record {
        spare = omega (arith, le, some);
        sound = record { above = omega (arith, is.above, above); number = is.number; closed = is.closed; lined = is.lined; starts = is.starts };
      }) kept.sets (least_each kept.room kept.sets) each_sound)

  pub below_row : All (λ (r : Row). r.position < row.position) kept.rows
  below_row = λ k d lt. omega (arith, sound.below k d lt, above)

  module _ (new : Kept) (sets_are : new.sets ≡ map (goes row) kept.sets) (b : Bool) (held : is_held new.sets row ≡ b)
      (rows_are : new.rows ≡ filter (is_held new.sets) kept.rows ++ cond b (row ∷ []) []) (next_is : new.next ≡ row.position + 1) where
    sets_sound : Each (IsSetSound new.next) new.sets
    sets_sound = subst (λ n. Each (IsSetSound n) new.sets) (sym next_is) (subst (λ (l : List SetKept). Each (IsSetSound (row.position + 1)) l) (sym sets_are)
        (each_over (IsSetSound (row.position + 1)) (goes row) kept.sets
        (each_map (IsSetSound kept.next) (λ (s : SetKept). IsSetSound (row.position + 1) (goes row s)) (λ s is. goes_sound kept.next row s above is) kept.sets each_sound)))

    pub sound_now : IsSound new
    sound_now = record {
      sets = all_of (IsSetSound new.next) new.sets sets_sound;
      rising = rw rows_are (rising_by b);
      below = rw (rows_are, next_is) (below_by b);
      held = rw rows_are (held_by b held);
    }
      where
        rising_by : (c : Bool) → AllPairs (λ (x y : Row). x.position < y.position) (filter (is_held new.sets) kept.rows ++ cond c (row ∷ []) [])
        rising_by true = all_pairs_push (λ (x y : Row). x.position < y.position) (filter (is_held new.sets) kept.rows) row
            (AllPairs-filter (λ (x y : Row). x.position < y.position) (is_held new.sets) kept.rows sound.rising)
            (All-filter (is_held new.sets) (λ (r : Row). r.position < row.position) kept.rows below_row)
        rising_by false = subst (λ (l : List Row). AllPairs (λ (x y : Row). x.position < y.position) l) (sym (append-nil (filter (is_held new.sets) kept.rows)))
            (AllPairs-filter (λ (x y : Row). x.position < y.position) (is_held new.sets) kept.rows sound.rising)

        earlier : All (λ (r : Row). r.position < row.position + 1) (filter (is_held new.sets) kept.rows)
        earlier = All-filter (is_held new.sets) (λ (r : Row). r.position < row.position + 1) kept.rows (λ k d lt. omega (arith, below_row k d lt))

        below_by : (c : Bool) → All (λ (r : Row). r.position < row.position + 1) (filter (is_held new.sets) kept.rows ++ cond c (row ∷ []) [])
        below_by true = All-push (λ (r : Row). r.position < row.position + 1) (filter (is_held new.sets) kept.rows) row earlier (omega arith)
        below_by false = subst (λ (l : List Row). All (λ (r : Row). r.position < row.position + 1) l) (sym (append-nil (filter (is_held new.sets) kept.rows))) earlier

        held_by : (c : Bool) → is_held new.sets row ≡ c → All (λ (r : Row). is_held new.sets r ≡ true) (filter (is_held new.sets) kept.rows ++ cond c (row ∷ []) [])
        held_by true is = All-push (λ (r : Row). is_held new.sets r ≡ true) (filter (is_held new.sets) kept.rows) row (filter_passes (is_held new.sets) kept.rows) is
        held_by false is = subst (λ (l : List Row). All (λ (r : Row). is_held new.sets r ≡ true) l) (sym (append-nil (filter (is_held new.sets) kept.rows))) (filter_passes (is_held new.sets) kept.rows)

    pub rules_are : rules_of new ≡ rules_of kept
    rules_are = ap (λ (l : List SetKept). map (λ (s : SetKept). s.rule) l) sets_are ∙ rules_stay row kept.sets

    pub spare_now : kept.room ≤ new.room + 1 → spare_of kept ≤ spare_of new + 1
    spare_now rooms =
        let most = least_most (spare_of kept - 1) new.room new.sets (omega (arith, rooms, least-le kept.room kept.sets))
        (subst (λ (l : List SetKept). Each (λ (s : SetKept). spare_of kept - 1 ≤ s.spare) l) (sym sets_are)
        (each_over (λ (s : SetKept). spare_of kept - 1 ≤ s.spare) (goes row) kept.sets
        (each_map (λ (s : SetKept). least kept.room kept.sets ≤ s.spare) (λ (s : SetKept). spare_of kept - 1 ≤ (goes row s).spare) (λ s le. omega (arith, le, one_less row s)) kept.sets (least_each kept.room kept.sets)))) in
        omega (arith, most)

    module _ (all : List Row) (stands : StandsFor kept all) where
      each_sum : Each (λ (s : SetKept). Summarizes s (numbers_of s.rule all)) kept.sets
      each_sum = each_of (λ (s : SetKept). Summarizes s (numbers_of s.rule all)) kept.sets stands.sets

      tell_before : Each (TellsAll all all) kept.sets
      tell_before = each_map_with (IsSetSound kept.next) (λ (s : SetKept). Summarizes s (numbers_of s.rule all)) (TellsAll all all)
          (λ s is sum. all_tell kept.next all stands.falling s is sum) kept.sets each_sound each_sum

      summaries : Each (λ (s : SetKept). Summarizes s (numbers_of s.rule (row ∷ all))) new.sets
      summaries = subst (λ (l : List SetKept). Each (λ (s : SetKept). Summarizes s (numbers_of s.rule (row ∷ all))) l) (sym sets_are)
          (each_over (λ (s : SetKept). Summarizes s (numbers_of s.rule (row ∷ all))) (goes row) kept.sets
          (each_map_with (IsSetSound kept.next) (λ (s : SetKept). Summarizes s (numbers_of s.rule all)) (λ (s : SetKept). Summarizes (goes row s) (numbers_of (goes row s).rule (row ∷ all)))
          (λ s is sum. goes_summarizes kept.next all stands.falling row above s is sum) kept.sets each_sound each_sum))

      falling_now : AreFalling new.next (row ∷ all)
      falling_now = (omega (arith, next_is), falling_more kept.next row.position all above stands.falling)

      tell_now : Each (TellsAll (row ∷ all) (row ∷ all)) new.sets
      tell_now = each_map_with (IsSetSound new.next) (λ (s : SetKept). Summarizes s (numbers_of s.rule (row ∷ all))) (TellsAll (row ∷ all) (row ∷ all))
          (λ s is sum. all_tell new.next (row ∷ all) falling_now s is sum) new.sets sets_sound summaries

      wider : All (λ (r : Row). is_held new.sets r ≡ true → is_held kept.sets r ≡ true) (in_order all)
      wider = ordered (λ (r : Row). is_held new.sets r ≡ true → is_held kept.sets r ≡ true) all
          (each_map (λ (r : Row). r.position < kept.next) (λ (r : Row). is_held new.sets r ≡ true → is_held kept.sets r ≡ true)
          (λ r lt h. held_earlier kept.next row r (omega (arith, lt, above)) above kept.sets each_sound (ap (λ (l : List SetKept). is_held l r) (sym sets_are) ∙ h))
          all (falling_each kept.next all stands.falling))

      -- the new row is held where the index numbers call it live
      pub held_is : is_held new.sets row ≡ list_any (is_live_in (row ∷ all) all row) (rules_of new)
      held_is = sym ((some_live (row ∷ all) row all new.sets tell_now).0)

      -- what is live is as the index numbers say
      pub live_now : new.rows ≡ live_rows (rules_of new) (row ∷ all)
      live_now = rows_are
          ∙ ap (λ (l : List Row). filter (is_held new.sets) l ++ cond b (row ∷ []) []) (stands.live ∙ live_is all all kept.sets tell_before)
          ∙ ap (λ (l : List Row). l ++ cond b (row ∷ []) []) (filter_wider (is_held new.sets) (is_held kept.sets) (in_order all) wider)
          ∙ ap (λ (l : List Row). filter (is_held new.sets) (in_order all) ++ l) (sym (tail_if b row new.sets held))
          ∙ sym (filter-append (is_held new.sets) (in_order all) (row ∷ []))
          ∙ sym (live_is (row ∷ all) (row ∷ all) new.sets tell_now)

      pub stands_after : AreKnown (rules_of kept) row.sets → StandsFor new (row ∷ all)
      stands_after known = record {
        live = live_now;
        sets = all_of (λ (s : SetKept). Summarizes s (numbers_of s.rule (row ∷ all))) new.sets summaries;
        falling = falling_now;
        known = subst (λ (l : List SetRule). All (λ (r : Row). AreKnown l r.sets) (row ∷ all)) (sym rules_are)
            (All-cons (λ (r : Row). AreKnown (rules_of kept) r.sets) row all known stands.known);
      }

    pub stands_now : AreKnown (rules_of kept) row.sets → (all : List Row) → StandsFor kept all → StandsFor new (row ∷ all)
    stands_now known all stands = stands_after all stands known
