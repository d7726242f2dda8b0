-- A store is damaged at one place at most, and one that is shown isn't damaged.
use Rattle.std.proofs.Common.{◌≡◌, ◌⊎◌, inl, inr, ⊎_elim, ℕ, zero, suc, List, [], ◌∷◌, ◌++◌, length, take, drop, map, Option, Some, None, refl, sym, ◌∙◌, ap, subst, arith, append_assoc, append-nil, length-take, take-append-drop}
use Rattle.std.specs.List.{slice_get}
use Rattle.std.proofs.lemmas.Grind.{flat_map-append}
use Rattle.std.proofs.lemmas.List.{take-append-le, take_at, take-map, length-map}
use Rattle.std.proofs.lemmas.Option.{slice_get_within}
use Rattle.std.proofs.lemmas.List.Elements.{All-take}
use Rattle.gl_outside.specs.Disk.{Image}
use Rattle.gl_gatelog.specs.declared.kind.Log.{Log}
use Rattle.gl_gatelog.specs.declared.kind.Log.TheVariants.{Journal, Index}
use Rattle.gl_gatelog.specs.Batch.{Batch, BatchAt}
use Rattle.gl_gatelog.specs.Gate.{IsClosed}
use Rattle.gl_gatelog.specs.Log.{Holds, IsSegmentSize, LogIs, Place, area_of, begin, end_area, end_of, log_end, next, records_of}
use Rattle.gl_gatelog.specs.Reading.{IsBroken}
use Rattle.gl_gatelog.proofs.Readings.{closed_or_broken}
use Rattle.gl_gatelog.proofs.Unique.{one_batch, one_log, not_closed, same_size}
use Rattle.gl_fields.specs.declared.entry.Entry.{Entry}
use Rattle.gl_fields.specs.declared.entry.Outcome.{Outcome}
use Rattle.gl_fields.specs.Entries.{entry_bytes}
use Rattle.gl_fields.specs.Outcomes.{outcome_bytes}
use Rattle.gl_fields.specs.Bounds.{IsOutcome}
use Rattle.gl_node.specs.Damage.{AreEntries, AreOutcomes, FirstUnlawful, UnlawfulAt, IsDamaged}
use Rattle.gl_node.specs.Standing.{IsLawful, LogShows, MayFollow, Shows}

-- what holds of records holds of those in front of others
abbrev IsFrontClosed : (List (List ℕ) → Type 0) → Type 0
IsFrontClosed P = (front rest : List (List ℕ)) → P (front ++ rest) → P front

-- of two lists of batches that stand from one place on, one is a front of the other
abbrev IsFrontOf : List Batch → List Batch → Type 0
IsFrontOf a b = (rest : List Batch) × (b ≡ a ++ rest)

module _ (log : Log) (s : ℕ) (image : Image) where
  longer : (place : Place) (x y : Batch) (a b : List Batch) → BatchAt (image (area_of log place.0)) place.1 x → BatchAt (image (area_of log place.0)) place.1 y
      → IsFrontOf a b → IsFrontOf (x ∷ a) (y ∷ b)
  longer place x y a b at_x at_y front =
      let same : y ≡ x = one_batch (image (area_of log place.0)) place.1 y x at_y at_x in
      (front.0, λ i. same i ∷ front.1 i)

  fronts : (place : Place) (a b : List Batch) → Holds log s image place a → Holds log s image place b → IsFrontOf a b ⊎ IsFrontOf b a
  fronts place [] b holds_a holds_b = inl (b, refl)
  fronts place (x ∷ a) [] holds_a holds_b = inr (x ∷ a, refl)
  fronts place (x ∷ a) (y ∷ b) holds_a holds_b =
      let same : y ≡ x = one_batch (image (area_of log place.0)) place.1 y x holds_b.0 holds_a.0 in
      ⊎_elim
      (λ f. inl (longer place x y a b holds_a.0 holds_b.0 f))
      (λ f. inr (longer place y x b a holds_b.0 holds_a.0 f))
      (fronts (next log s place x) a b holds_a.1 (subst (λ (z : Batch). Holds log s image (next log s place z) b) same holds_b.1))

  -- the batch behind a front stands where the front ends
  pub behind : (place : Place) (a : List Batch) (x : Batch) (rest : List Batch) → Holds log s image place (a ++ x ∷ rest)
      → BatchAt (image (area_of log (end_of log s place a).0)) (end_of log s place a).1 x
  behind place [] x rest holds = holds.0
  behind place (y ∷ a) x rest holds = behind (next log s place y) a x rest holds.1

records_more : (a : List Batch) (x : Batch) (rest : List Batch) → records_of (a ++ x ∷ rest) ≡ (records_of a ++ x) ++ records_of rest
records_more a x rest = flat_map-append (λ (b : Batch). b) a (x ∷ rest) ∙ sym (append_assoc (records_of a) x (records_of rest))

module _ (log : Log) (image : Image) (P : List (List ℕ) → Type 0) (closed : IsFrontClosed P) where
  -- Where lawful batches whose records have P go on behind a first unlawful one, that isn't one.
  goes_on : (place : Place) (f : FirstUnlawful log image P place) (x : Batch) (rest : List Batch)
      → Holds log f.segment_size image (0, 0) (begin log f.segment_size ∷ (f.batches ++ x ∷ rest)) → P (records_of (f.batches ++ x ∷ rest)) → ⊥
  goes_on place f x rest holds has =
      let there : BatchAt (image (area_of log place.0)) place.1 x =
      subst (λ (p : Place). BatchAt (image (area_of log p.0)) p.1 x) f.here (behind log f.segment_size image (0, 0) (begin log f.segment_size ∷ f.batches) x rest holds) in
      ⊎_elim
      (λ (broken : IsBroken (image (area_of log place.0)) place.1). broken.unlawful x there)
      (λ (other : (batch : Batch) × BatchAt (image (area_of log place.0)) place.1 batch × (P (records_of f.batches ++ batch) → ⊥)).
      let same : x ≡ other.0 = one_batch (image (area_of log place.0)) place.1 x other.0 there other.1 in
      other.2 (subst (λ (b : Batch). P (records_of f.batches ++ b)) same (closed (records_of f.batches ++ x) (records_of rest) (subst P (records_more f.batches x rest) has))))
      f.unlawful

  sizes : (s t : ℕ) (a b : List Batch) → IsSegmentSize s → IsSegmentSize t → Holds log s image (0, 0) (begin log s ∷ a) → Holds log t image (0, 0) (begin log t ∷ b) → t ≡ s
  sizes s t a b sized_s sized_t holds_s holds_t =
      same_size log t s (omega (arith, sized_t)) (omega (arith, sized_s)) (one_batch (image (area_of log 0)) 0 (begin log t) (begin log s) holds_t.0 holds_s.0)

  -- a longer list of lawful batches that have P is refused
  not_front : (place : Place) (f : FirstUnlawful log image P place) (b rest : List Batch) → b ≡ f.batches ++ rest
      → Holds log f.segment_size image (0, 0) (begin log f.segment_size ∷ b) → P (records_of b) → rest ≡ []
  not_front place f b [] is holds has = refl
  not_front place f b (x ∷ rest) is holds has = absurd (goes_on place f x rest
      (subst (λ (l : List Batch). Holds log f.segment_size image (0, 0) (begin log f.segment_size ∷ l)) is holds)
      (subst (λ (l : List Batch). P (records_of l)) is has))

  same_end : (s : ℕ) (a b rest : List Batch) → b ≡ a ++ rest → rest ≡ [] → log_end log s b ≡ log_end log s a
  same_end s a b rest is none = ap (λ l. log_end log s l) (is ∙ ap (λ r. a ++ r) none ∙ append-nil a)

  one_first : (p q : Place) → FirstUnlawful log image P p → FirstUnlawful log image P q → p ≡ q
  one_first p q f g =
      let same : g.segment_size ≡ f.segment_size = sizes f.segment_size g.segment_size f.batches g.batches f.sized g.sized f.holds g.holds in
      let holds_g : Holds log f.segment_size image (0, 0) (begin log f.segment_size ∷ g.batches) = subst (λ n. Holds log n image (0, 0) (begin log n ∷ g.batches)) same g.holds in
      let holds_f : Holds log g.segment_size image (0, 0) (begin log g.segment_size ∷ f.batches) = subst (λ n. Holds log n image (0, 0) (begin log n ∷ f.batches)) (sym same) f.holds in
      let there : log_end log f.segment_size g.batches ≡ q = ap (λ n. log_end log n g.batches) (sym same) ∙ g.here in
      ⊎_elim
      (λ (front : IsFrontOf f.batches g.batches).
      sym f.here ∙ sym (same_end f.segment_size f.batches g.batches front.0 front.1 (not_front p f g.batches front.0 front.1 holds_g g.so_far)) ∙ there)
      (λ (front : IsFrontOf g.batches f.batches).
      sym f.here ∙ same_end f.segment_size g.batches f.batches front.0 front.1 (not_front q g f.batches front.0 front.1 holds_f f.so_far) ∙ there)
      (fronts log f.segment_size image (next log f.segment_size (0, 0) (begin log f.segment_size)) f.batches g.batches f.holds.1 holds_g.1)

  -- a closed place isn't the first unlawful one
  not_closed_there : (p : Place) → FirstUnlawful log image P p → IsClosed p.1 (image (area_of log p.0)) → ⊥
  not_closed_there p f ends = ⊎_elim
      (λ (broken : IsBroken (image (area_of log p.0)) p.1). closed_or_broken (image (area_of log p.0)) p.1 ends broken.more broken.open_gate)
      (λ (other : (batch : Batch) × BatchAt (image (area_of log p.0)) p.1 batch × (P (records_of f.batches ++ batch) → ⊥)).
      not_closed (image (area_of log p.0)) p.1 other.0 other.1 ends)
      f.unlawful

  ends_before : (s : ℕ) (a b rest : List Batch) → a ≡ b ++ rest → Holds log s image (0, 0) (begin log s ∷ a) → IsClosed (log_end log s b).1 (image (end_area log s b)) → rest ≡ []
  ends_before s a b [] is holds ends = refl
  ends_before s a b (x ∷ rest) is holds ends = absurd (not_closed (image (end_area log s b)) (log_end log s b).1 x
      (behind log s image (0, 0) (begin log s ∷ b) x rest (subst (λ (l : List Batch). Holds log s image (0, 0) (begin log s ∷ l)) is holds)) ends)

  -- where a log ends lawfully nothing is unlawful
  not_where_it_ends : (s : ℕ) (b : List Batch) → LogIs log s b image → P (records_of b) → (p : Place) → FirstUnlawful log image P p → ⊥
  not_where_it_ends s b is has p f =
      let same : s ≡ f.segment_size = sizes f.segment_size s f.batches b f.sized is.sized f.holds is.holds in
      let holds : Holds log f.segment_size image (0, 0) (begin log f.segment_size ∷ b) = subst (λ n. Holds log n image (0, 0) (begin log n ∷ b)) same is.holds in
      let ends : IsClosed (log_end log f.segment_size b).1 (image (end_area log f.segment_size b)) = subst (λ n. IsClosed (log_end log n b).1 (image (end_area log n b))) same is.ends in
      let closed_at : log_end log f.segment_size b ≡ p → ⊥ = λ at. not_closed_there p f (subst (λ (q : Place). IsClosed q.1 (image (area_of log q.0))) at ends) in
      ⊎_elim
      (λ (front : IsFrontOf f.batches b).
      closed_at (same_end f.segment_size f.batches b front.0 front.1 (not_front p f b front.0 front.1 holds has) ∙ f.here))
      (λ (front : IsFrontOf b f.batches).
      closed_at (sym (same_end f.segment_size b f.batches front.0 front.1 (ends_before f.segment_size f.batches b front.0 front.1 f.holds ends)) ∙ f.here))
      (fronts log f.segment_size image (next log f.segment_size (0, 0) (begin log f.segment_size)) f.batches b f.holds.1 holds.1)

  -- a log is unlawful at one place at most
  unlawful_once : (area at area2 at2 : ℕ) → UnlawfulAt log image P area at → UnlawfulAt log image P area2 at2 → (area ≡ area2) × (at ≡ at2)
  unlawful_once area at area2 at2 (inl a) (inl b) = (a.0 ∙ sym b.0, a.1 ∙ sym b.1)
  unlawful_once area at area2 at2 (inl a) (inr b) = absurd (a.2.no_begin b.3.segment_size b.3.sized b.3.holds.0)
  unlawful_once area at area2 at2 (inr a) (inl b) = absurd (b.2.no_begin a.3.segment_size a.3.sized a.3.holds.0)
  unlawful_once area at area2 at2 (inr a) (inr b) =
      let same : a.0 ≡ b.0 = one_first a.0 b.0 a.3 b.3 in
      (a.1 ∙ ap (λ (p : Place). area_of log p.0) same ∙ sym b.1, a.2 ∙ ap (λ (p : Place). p.1) same ∙ sym b.2)

  -- and nowhere, where it shows lawful records
  shown_or_unlawful : (segment : Option ℕ) (batches : List Batch) → LogShows log image segment batches → P (records_of batches) → (area at : ℕ) → UnlawfulAt log image P area at → ⊥
  shown_or_unlawful None batches shown has area at (inl none) = closed_or_broken (image (area_of log 0)) 0 shown.0 none.2.more none.2.open_gate
  shown_or_unlawful None batches shown has area at (inr f) = not_closed (image (area_of log 0)) 0 (begin log f.3.segment_size) f.3.holds.0 shown.0
  shown_or_unlawful (Some s) batches shown has area at (inl none) = none.2.no_begin s shown.sized shown.holds.0
  shown_or_unlawful (Some s) batches shown has area at (inr f) = not_where_it_ends s batches shown has f.0 f.3

-- an image shows one list of batches of a log
pub shows_once : (log : Log) (image : Image) (s t : Option ℕ) (a b : List Batch) → LogShows log image s a → LogShows log image t b → (s ≡ t) × (a ≡ b)
shows_once log image None None a b is_a is_b = (refl, is_a.1 ∙ sym is_b.1)
shows_once log image None (Some t) a b is_a is_b = absurd (not_closed (image (area_of log 0)) 0 (begin log t) is_b.holds.0 is_a.0)
shows_once log image (Some s) None a b is_a is_b = absurd (not_closed (image (area_of log 0)) 0 (begin log s) is_a.holds.0 is_b.0)
shows_once log image (Some s) (Some t) a b is_a is_b = let same = one_log log s t a b image is_a is_b in (ap (λ (n : ℕ). Some n) same.0, same.1)

-- entries in front of lawful ones are lawful
get_front : (front rest : List Entry) (position : ℕ) (entry : Entry) → slice_get front position ≡ Some entry → slice_get (front ++ rest) position ≡ Some entry
get_front [] rest position entry is = absurd (none_there position is)
  where
    none_there : (n : ℕ) → slice_get [] n ≡ Some entry → ⊥
    none_there zero is = cc is
    none_there (suc n) is = cc is
get_front (x ∷ front) rest zero entry is = is
get_front (x ∷ front) rest (suc position) entry is = get_front front rest position entry is

lawful_front : (front rest : List Entry) → IsLawful (front ++ rest) → IsLawful front
lawful_front front rest lawful position entry is =
    subst (λ (before : List Entry). MayFollow before entry)
    (take-append-le position front rest (omega (arith, slice_get_within front position entry is)))
    (lawful position entry (get_front front rest position entry is))

parted : {X : Type 0} (f : X → List ℕ) (xs : List X) (front rest : List (List ℕ)) → front ++ rest ≡ map f xs → front ≡ map f (take (length front) xs)
parted f xs front rest is = sym (take_at front rest (length front) refl) ∙ ap (λ l. take (length front) l) is ∙ take-map f (length front) xs

pub entries_closed : IsFrontClosed AreEntries
entries_closed front rest are = (
  take (length front) are.0,
  parted entry_bytes are.0 front rest are.1,
  lawful_front (take (length front) are.0) (drop (length front) are.0) (subst IsLawful (sym (take-append-drop (length front) are.0)) are.2),
)

pub outcomes_closed : (entries : ℕ) → IsFrontClosed (AreOutcomes entries)
outcomes_closed entries front rest are = (
  take (length front) are.0,
  parted outcome_bytes are.0 front rest are.1,
  All-take IsOutcome (length front) are.0 are.2,
  omega (arith, are.3, length-take (length front) are.0),
)

-- what is shown has lawful entries, and outcomes of them
shown_entries : (image : Image) (journal : List Entry) (found : List Outcome) (shown : Shows image journal found) → AreEntries (records_of shown.journal_batches)
shown_entries image journal found shown = (journal, shown.entries, shown.lawful)

shown_outcomes : (image : Image) (journal : List Entry) (found : List Outcome) (shown : Shows image journal found) → AreOutcomes (length (records_of shown.journal_batches)) (records_of shown.index_batches)
shown_outcomes image journal found shown =
    (found, shown.outcomes, shown.bounded, omega (arith, shown.each_has_entry, ap (λ rs. length rs) shown.entries, length-map journal entry_bytes))

pub shown_or_damaged : (image : Image) (journal : List Entry) (found : List Outcome) → Shows image journal found → (log : Log) (area at : ℕ) → IsDamaged image log area at → ⊥
shown_or_damaged image journal found shown Journal area at is =
    shown_or_unlawful Journal image AreEntries entries_closed shown.journal_segment shown.journal_batches shown.journal_reads (shown_entries image journal found shown) area at is
shown_or_damaged image journal found shown Index area at is =
    let same = shows_once Journal image is.0 shown.journal_segment is.1 shown.journal_batches is.2 shown.journal_reads in
    let n : ℕ = length (records_of shown.journal_batches) in
    shown_or_unlawful Index image (AreOutcomes n) (outcomes_closed n) shown.index_segment shown.index_batches shown.index_reads (shown_outcomes image journal found shown) area at
    (subst (λ (b : List Batch). UnlawfulAt Index image (AreOutcomes (length (records_of b))) area at) same.1 is.4)

pub damaged_once : (image : Image) (log log2 : Log) (area at area2 at2 : ℕ) → IsDamaged image log area at → IsDamaged image log2 area2 at2 → (log ≡ log2) × (area ≡ area2) × (at ≡ at2)
damaged_once image Journal Journal area at area2 at2 a b =
    let same = unlawful_once Journal image AreEntries entries_closed area at area2 at2 a b in (refl, same.0, same.1)
damaged_once image Journal Index area at area2 at2 a b = absurd (shown_or_unlawful Journal image AreEntries entries_closed b.0 b.1 b.2 b.3 area at a)
damaged_once image Index Journal area at area2 at2 a b = absurd (shown_or_unlawful Journal image AreEntries entries_closed a.0 a.1 a.2 a.3 area2 at2 b)
damaged_once image Index Index area at area2 at2 a b =
    let same = shows_once Journal image a.0 b.0 a.1 b.1 a.2 b.2 in
    let n : ℕ = length (records_of b.1) in
    let once = unlawful_once Index image (AreOutcomes n) (outcomes_closed n) area at area2 at2
    (subst (λ (l : List Batch). UnlawfulAt Index image (AreOutcomes (length (records_of l))) area at) same.1 a.4) b.4 in
    (refl, once.0, once.1)
