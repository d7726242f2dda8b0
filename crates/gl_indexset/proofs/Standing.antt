-- Which rows are live, by what the sets keep.
use Rattle.std.proofs.Common.{◌≡◌, ℕ, ◌+◌, ◌<◌, ◌≤◌, Bool, true, false, ◌&&◌, ◌||◌, cond, nat_lt, List, [], ◌∷◌, ◌++◌, map, filter, refl, sym, ◌∙◌, ap, subst, arith}
use Rattle.std.specs.List.{All, list_any}
use Rattle.std.proofs.lemmas.List.Elements.{All-head, All-tail, All-cons, filter-append}
use Rattle.gl_indexset.specs.declared.row.Row.{Row}
use Rattle.gl_fields.specs.declared.set_rule.SetRule.{SetRule}
use Rattle.gl_indexset.specs.Retention.{Numbered, is_in, rows_of, numbered, numbers_of, number_after, newest_number, is_live_in, live_among}
use Rattle.gl_indexset.specs.SetKept.{SetKept, stored, oldest_of, starts_by, is_held_by, is_held, goes, IsSetSound}
use Rattle.gl_indexset.specs.Kept.{AreFalling, Summarizes, indexes_of}
use Rattle.gl_indexset.proofs.Sweeping.{rule_stays, held_by_start, held_before}
use Rattle.gl_indexset.proofs.Numbering.{Each, each_map, start_of, IsMeasured, IsLaidOut, HeadOk, all_laid}
use Rattle.gl_indexset.proofs.Keeping.{next_summary, oldest_is, sound_after, sound_later}

pub each_of : {X : Type 0} (P : X → Type 0) (xs : List X) → All P xs → Each P xs
each_of P [] all = tt
each_of P (x ∷ xs) all = (All-head P x xs all, each_of P xs (All-tail P x xs all))

pub all_of : {X : Type 0} (P : X → Type 0) (xs : List X) → Each P xs → All P xs
all_of P [] e = λ k d lt. absurd (omega arith)
all_of P (x ∷ xs) e = All-cons P x xs e.0 (all_of P xs e.1)

pub falling_more : (a b : ℕ) (rows : List Row) → a ≤ b → AreFalling a rows → AreFalling b rows
falling_more a b [] le falling = tt
falling_more a b (row ∷ before) le falling = (omega (arith, falling.0), falling.1)

pub falling_rows : (rule : SetRule) (next : ℕ) (rows : List Row) → AreFalling next rows → AreFalling next (rows_of rule rows)
falling_rows rule next [] falling = tt
falling_rows rule next (row ∷ before) falling = over (is_in rule row) (falling_rows rule row.position before falling.1)
  where
    over : (b : Bool) → AreFalling row.position (rows_of rule before) → AreFalling next (cond b (row ∷ rows_of rule before) (rows_of rule before))
    over true rest = (falling.0, rest)
    over false rest = falling_more row.position next (rows_of rule before) (omega (arith, falling.0)) rest

-- rows the oldest first
abbrev pub in_order : List Row → List Row
in_order [] = []
in_order (row ∷ before) = in_order before ++ row ∷ []

module _ (all : List Row) where
  -- of each numbered row the set tells whether it is live
  abbrev pub Tells : SetKept → Numbered → Type 0
  Tells set row = nat_lt (newest_number (numbers_of set.rule all)) (row.number + set.rule.keep) ≡ starts_by (oldest_of set) row.row.position

  abbrev pub TellsAll : List Row → SetKept → Type 0
  TellsAll rows set = Each (Tells set) (numbers_of set.rule rows)

  one_live : (row : Row) (before : List Row) (set : SetKept) → TellsAll (row ∷ before) set → (is_live_in all before row set.rule ≡ is_held_by row set) × TellsAll before set
  one_live row before set tells = over (is_in set.rule row) tells
    where
      over : (b : Bool) → Each (Tells set) (numbered set.rule (cond b (row ∷ rows_of set.rule before) (rows_of set.rule before)))
          → ((b && nat_lt (newest_number (numbers_of set.rule all)) (number_after set.rule (numbers_of set.rule before) row.moment + set.rule.keep)) ≡ (b && starts_by (oldest_of set) row.position)) × TellsAll before set
      over true told = told
      over false told = (refl, told)

  pub some_live : (row : Row) (before : List Row) (sets : List SetKept) → Each (TellsAll (row ∷ before)) sets
      → (list_any (is_live_in all before row) (map (λ (s : SetKept). s.rule) sets) ≡ is_held sets row) × Each (TellsAll before) sets
  some_live row before [] e = (refl, tt)
  some_live row before (set ∷ sets) e =
      let one = one_live row before set e.0 in
      let rest = some_live row before sets e.1 in (
        ap (λ b. b || list_any (is_live_in all before row) (map (λ (s : SetKept). s.rule) sets)) one.0 ∙ ap (λ b. is_held_by row set || b) rest.0,
        (one.1, rest.1),
      )

  -- the rows that the index numbers call live are those that a set holds
  pub live_is : (rows : List Row) (sets : List SetKept) → Each (TellsAll rows) sets → live_among (map (λ (s : SetKept). s.rule) sets) all rows ≡ filter (is_held sets) (in_order rows)
  live_is [] sets e = refl
  live_is (row ∷ before) sets e =
      let some = some_live row before sets e in
      ap (λ (l : List Row). l ++ cond (list_any (is_live_in all before row) (map (λ (s : SetKept). s.rule) sets)) (row ∷ []) []) (live_is before sets some.1)
      ∙ ap (λ b. filter (is_held sets) (in_order before) ++ cond b (row ∷ []) []) some.0
      ∙ sym (filter-append (is_held sets) (in_order before) (row ∷ []))

-- each set tells, where it keeps what it should
pub all_tell : (next : ℕ) (all : List Row) → AreFalling next all → (set : SetKept) → IsSetSound next set → Summarizes set (numbers_of set.rule all) → TellsAll all all set
all_tell next all falling set sound sum =
    each_map (IsMeasured (newest_number rows) (start_of set.rule.keep (indexes_of rows)) set.rule.keep) (Tells all set)
    (λ y is. is ∙ ap (λ o. starts_by o y.row.position) (sym (oldest_is next set sound rows sum))) rows (laid.measured set.rule.keep)
  where
    rows : List Numbered
    rows = numbers_of set.rule all

    laid : IsLaidOut next (numbers_of set.rule all)
    laid = (all_laid set.rule next (rows_of set.rule all) (falling_rows set.rule next all falling)).0

-- a set after a row
pub goes_rule : (row : Row) (set : SetKept) → (goes row set).rule ≡ set.rule
goes_rule row set = over (is_in set.rule row)
  where
    over : (b : Bool) → (cond b (stored row.position row.moment set) set).rule ≡ set.rule
    over true = rule_stays row.position row.moment set
    over false = refl

pub goes_sound : (next : ℕ) (row : Row) (set : SetKept) → next ≤ row.position → IsSetSound next set → IsSetSound (row.position + 1) (goes row set)
goes_sound next row set le sound = over (is_in set.rule row)
  where
    over : (b : Bool) → IsSetSound (row.position + 1) (cond b (stored row.position row.moment set) set)
    over true = sound_after row.position row.moment set (sound_later next row.position set le sound)
    over false = sound_later next (row.position + 1) set (omega (arith, le)) sound

pub goes_summarizes : (next : ℕ) (all : List Row) → AreFalling next all → (row : Row) → next ≤ row.position → (set : SetKept) → IsSetSound next set → Summarizes set (numbers_of set.rule all)
    → Summarizes (goes row set) (numbers_of (goes row set).rule (row ∷ all))
goes_summarizes next all falling row le set sound sum =
    subst (λ (r : SetRule). Summarizes (goes row set) (numbers_of r (row ∷ all))) (sym (goes_rule row set)) (over (is_in set.rule row))
  where
    head : HeadOk (numbers_of set.rule all)
    head = (all_laid set.rule next (rows_of set.rule all) (falling_rows set.rule next all falling)).1

    over : (b : Bool) → Summarizes (cond b (stored row.position row.moment set) set) (numbered set.rule (cond b (row ∷ rows_of set.rule all) (rows_of set.rule all)))
    over true = next_summary next set sound row (numbers_of set.rule all) head sum
    over false = sum

pub rules_stay : (row : Row) (sets : List SetKept) → map (λ (s : SetKept). s.rule) (map (goes row) sets) ≡ map (λ (s : SetKept). s.rule) sets
rules_stay row [] = refl
rules_stay row (set ∷ sets) = ap (λ (r : SetRule). r ∷ map (λ (s : SetKept). s.rule) (map (goes row) sets)) (goes_rule row set) ∙ ap (λ (l : List SetRule). set.rule ∷ l) (rules_stay row sets)

-- no earlier row is held that wasn't
pub or_both : (a b c d : Bool) → (a ≡ true → c ≡ true) → (b ≡ true → d ≡ true) → (a || b) ≡ true → (c || d) ≡ true
or_both true b c d first rest h = here c (first refl)
  where
    here : (e : Bool) → e ≡ true → (e || d) ≡ true
    here true is = refl
    here false is = cc is
or_both false b c d first rest h = later_one c (rest h)
  where
    later_one : (e : Bool) → d ≡ true → (e || d) ≡ true
    later_one true is = refl
    later_one false is = is

held_once : (next : ℕ) (row other : Row) → other.position < row.position → (set : SetKept) → next ≤ row.position → IsSetSound next set → is_held_by other (goes row set) ≡ true → is_held_by other set ≡ true
held_once next row other lower set le sound h = over (is_in set.rule row) h
  where
    over : (b : Bool) → is_held_by other (cond b (stored row.position row.moment set) set) ≡ true → is_held_by other set ≡ true
    over true told = held_by_start other (stored row.position row.moment set) set (sym (rule_stays row.position row.moment set))
        (held_before row.position row.moment set (sound_later next row.position set le sound) other.position lower) told
    over false told = told

pub held_earlier : (next : ℕ) (row other : Row) → other.position < row.position → next ≤ row.position → (sets : List SetKept) → Each (IsSetSound next) sets
    → is_held (map (goes row) sets) other ≡ true → is_held sets other ≡ true
held_earlier next row other lower le [] e h = h
held_earlier next row other lower le (set ∷ sets) e h =
    or_both (is_held_by other (goes row set)) (is_held (map (goes row) sets) other) (is_held_by other set) (is_held sets other)
    (held_once next row other lower set le e.0) (held_earlier next row other lower le sets e.1) h
