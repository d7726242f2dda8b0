-- An image has one reading at most.
use Rattle.std.proofs.Common.{◌≡◌, inl, inr, ℕ, ◌<◌, List, [], ◌∷◌, length, drop, get_or, refl, sym, ◌∙◌, ap, subst, arith}
use Rattle.gl_outside.specs.Disk.{Image}
use Rattle.gl_gatelog.specs.declared.kind.Log.{Log}
use Rattle.gl_gatelog.specs.Batch.{Batch, BatchAt}
use Rattle.gl_gatelog.specs.Gate.{IsClosed}
use Rattle.gl_gatelog.specs.Log.{area_of, Place, next, begin, end_of, log_end, end_area, Holds, LogIs, IsSegmentSize}
use Rattle.gl_gatelog.specs.Reading.{Reading, Fresh, Whole, Broken, ReadsAs, IsBroken, BrokenBehind}
use Rattle.gl_gatelog.proofs.Unique.{one_batch, not_closed, same_size}

-- no lawful batch stands at a place
abbrev pub Stops : Log → Image → Place → Type 0
Stops log image place = (b : Batch) → BatchAt (image (area_of log place.0)) place.1 b → ⊥

pub stops_closed : (log : Log) (image : Image) (place : Place) → IsClosed place.1 (image (area_of log place.0)) → Stops log image place
stops_closed log image place closed b is = not_closed (image (area_of log place.0)) place.1 b is closed

-- an open gate isn't a closed one
pub closed_or_broken : (area : List ℕ) (at : ℕ) → IsClosed at area → 1 < length area → get_or area at 0 ≡ 1 → ⊥
closed_or_broken area at (inl none) more one = omega (arith, none.1, more)
closed_or_broken area at (inr shut) more one = shut.shut one

module _ (log : Log) (s : ℕ) (image : Image) where
  pub one_chain : (place : Place) (a b : List Batch) → Holds log s image place a → Holds log s image place b
      → Stops log image (end_of log s place a) → Stops log image (end_of log s place b) → a ≡ b
  one_chain place [] [] holds_a holds_b ends_a ends_b = refl
  one_chain place [] (y ∷ b) holds_a holds_b ends_a ends_b = absurd (ends_a y holds_b.0)
  one_chain place (x ∷ a) [] holds_a holds_b ends_a ends_b = absurd (ends_b x holds_a.0)
  one_chain place (x ∷ a) (y ∷ b) holds_a holds_b ends_a ends_b =
      let same : y ≡ x = one_batch (image (area_of log place.0)) place.1 y x holds_b.0 holds_a.0 in
      let more : a ≡ b = one_chain (next log s place x) a b holds_a.1
      (subst (λ (z : Batch). Holds log s image (next log s place z) b) same holds_b.1)
      ends_a
      (subst (λ (z : Batch). Stops log image (end_of log s (next log s place z) b)) same ends_b) in
      λ i. sym same i ∷ more i

-- lawful batches from the first on, behind which none stands
pub record Chain (log : Log) (s : ℕ) (batches : List Batch) (image : Image) : Type 0 where
  pub sized : IsSegmentSize s
  pub holds : Holds log s image (0, 0) (begin log s ∷ batches)
  pub stops : Stops log image (log_end log s batches)

pub one_of : (log : Log) (s t : ℕ) (a b : List Batch) (image : Image) → Chain log s a image → Chain log t b image → (s ≡ t) × (a ≡ b)
one_of log s t a b image is_a is_b =
    let size_is : s ≡ t = same_size log s t (omega (arith, is_a.sized)) (omega (arith, is_b.sized)) (one_batch (image (area_of log 0)) 0 (begin log s) (begin log t) is_a.holds.0 is_b.holds.0) in
    let is_b_s : Chain log s b image = subst (λ (n : ℕ). Chain log n b image) (sym size_is) is_b in
    let chain : (begin log s ∷ a) ≡ (begin log s ∷ b) = one_chain log s image (0, 0) (begin log s ∷ a) (begin log s ∷ b) is_a.holds is_b_s.holds is_a.stops is_b_s.stops in
    (size_is, ap (λ (l : List Batch). drop 1 l) chain)

module _ (log : Log) (image : Image) where
  whole_chain : (s : ℕ) (b : List Batch) → LogIs log s b image → Chain log s b image
  whole_chain s b is = record { sized = is.sized; holds = is.holds; stops = stops_closed log image (log_end log s b) is.ends }

  at_place : (s : ℕ) (b : List Batch) (k at : ℕ) → BrokenBehind log image k at s b → IsBroken (image (end_area log s b)) (log_end log s b).1
  at_place s b k at is = subst (λ (p : Place). IsBroken (image (area_of log p.0)) p.1) (sym is.place) is.broken

  broken_chain : (s : ℕ) (b : List Batch) (k at : ℕ) → BrokenBehind log image k at s b → Chain log s b image
  broken_chain s b k at is = record { sized = is.sized; holds = is.holds; stops = (at_place s b k at is).unlawful }

  fresh_begun : (s : ℕ) → IsClosed 0 (image (area_of log 0)) → BatchAt (image (area_of log 0)) 0 (begin log s) → ⊥
  fresh_begun s fresh stands = not_closed (image (area_of log 0)) 0 (begin log s) stands fresh

  fresh_broken : (k at : ℕ) → IsClosed 0 (image (area_of log 0)) → ReadsAs log image (Broken k at) → ⊥
  fresh_broken k at fresh (inl is) = fresh_begun is.0 fresh is.2.holds.0
  fresh_broken k at fresh (inr none) = closed_or_broken (image (area_of log 0)) 0 fresh none.2.more none.2.open_gate

  whole_broken : (s : ℕ) (b : List Batch) (k at : ℕ) → LogIs log s b image → ReadsAs log image (Broken k at) → ⊥
  whole_broken s b k at is (inl breaks) =
      let same = one_of log breaks.0 s breaks.1 b image (broken_chain breaks.0 breaks.1 k at breaks.2) (whole_chain s b is) in
      let there = at_place breaks.0 breaks.1 k at breaks.2 in
      let there_s : IsBroken (image (end_area log s breaks.1)) (log_end log s breaks.1).1 = subst (λ (n : ℕ). IsBroken (image (end_area log n breaks.1)) (log_end log n breaks.1).1) same.0 there in
      let here : IsBroken (image (end_area log s b)) (log_end log s b).1 = subst (λ (l : List Batch). IsBroken (image (end_area log s l)) (log_end log s l).1) same.1 there_s in
      closed_or_broken (image (end_area log s b)) (log_end log s b).1 is.ends here.more here.open_gate
  whole_broken s b k at is (inr none) = none.2.no_begin s is.sized is.holds.0

  same_broken : (k at j to : ℕ) → ReadsAs log image (Broken k at) → ReadsAs log image (Broken j to) → Broken k at ≡ Broken j to
  same_broken k at j to (inl a) (inl b) =
      let same = one_of log a.0 b.0 a.1 b.1 image (broken_chain a.0 a.1 k at a.2) (broken_chain b.0 b.1 j to b.2) in
      let ends : (k, at) ≡ (j, to) = sym a.2.place ∙ ap (λ (n : ℕ). log_end log n a.1) same.0 ∙ ap (λ (l : List Batch). log_end log b.0 l) same.1 ∙ b.2.place in
      λ i. Broken (ends i).0 (ends i).1
  same_broken k at j to (inl a) (inr b) = absurd (b.2.no_begin a.0 a.2.sized a.2.holds.0)
  same_broken k at j to (inr a) (inl b) = absurd (a.2.no_begin b.0 b.2.sized b.2.holds.0)
  same_broken k at j to (inr a) (inr b) = λ i. Broken ((a.0 ∙ sym b.0) i) ((a.1 ∙ sym b.1) i)

  pub one_reading : (r t : Reading) → ReadsAs log image r → ReadsAs log image t → r ≡ t
  one_reading Fresh Fresh is_r is_t = refl
  one_reading Fresh (Whole s b) is_r is_t = absurd (fresh_begun s is_r is_t.holds.0)
  one_reading Fresh (Broken k at) is_r is_t = absurd (fresh_broken k at is_r is_t)
  one_reading (Whole s b) Fresh is_r is_t = absurd (fresh_begun s is_t is_r.holds.0)
  one_reading (Whole s a) (Whole t b) is_r is_t =
      let same = one_of log s t a b image (whole_chain s a is_r) (whole_chain t b is_t) in
      λ i. Whole (same.0 i) (same.1 i)
  one_reading (Whole s b) (Broken k at) is_r is_t = absurd (whole_broken s b k at is_r is_t)
  one_reading (Broken k at) Fresh is_r is_t = absurd (fresh_broken k at is_t is_r)
  one_reading (Broken k at) (Whole s b) is_r is_t = absurd (whole_broken s b k at is_t is_r)
  one_reading (Broken k at) (Broken j to) is_r is_t = same_broken k at j to is_r is_t
