-- A log is read by one batch further.
use Rattle.std.proofs.Common.{◌≡◌, inl, inr, ⊎_elim, ◌⊎◌, ℕ, ◌+◌, ◌^◌, ◌≤◌, ◌<◌, List, [], ◌∷◌, ◌++◌, length, get_or, refl, sym, ◌∙◌, ap, subst, arith, Bool, true, false, replicate, if◌then◌else◌, Option, None, Some, MatchOption, Vec}
use Rattle.std.specs.declared.alloc.Global.{Global}
use Rattle.std.specs.List.{All}
use Rattle.std.proofs.lemmas.Bool.Decides.{nat_tests}
use Rattle.std.proofs.lemmas.List.Elements.{All-head, All-tail}
use Rattle.gl_outside.specs.Disk.{Image, DiskState, IsDurable}
use Rattle.gl_gatelog.specs.declared.kind.Log.{Log}
use Rattle.gl_gatelog.specs.declared.kind.Log.TheVariants.{Journal, Index}
use Rattle.gl_gatelog.specs.Batch.{Batch, BatchAt, size}
use Rattle.gl_gatelog.specs.Gate.{IsShut, Waits}
use Rattle.gl_gatelog.specs.Log.{area_of, Place, begin, log_end, next, next_by, next_segment, behind_batch, same_segment, last_segment, places_from, IsSegmentSize}
use Rattle.gl_gatelog.specs.View.{GateView, batch_of, has_long, appended}
use Rattle.gl_gatelog.specs.Reading.{HasNoBegin}
use Rattle.gl_gatelog.specs.Progress.{OpeningView, IsAtHand, ReadBehind, HasRead, HasEnded, IsFurther}
use Rattle.gl_gatelog.proofs.Chain.{next_cases, end_snoc, holds_snoc}
use Rattle.gl_gatelog.proofs.Standing.{places_snoc, bytes_snoc}
use Rattle.gl_gatelog.proofs.Bodies.{long_later}

pub not_long : (b : Batch) → All (λ (r : List ℕ). length r ≤ 2 ^ 22) b → has_long b ≡ true → ⊥
not_long [] short is = cc is
not_long (r ∷ b) short is =
    not_long b (All-tail (λ (r : List ℕ). length r ≤ 2 ^ 22) r b short) (sym (long_later r b (All-head (λ (r : List ℕ). length r ≤ 2 ^ 22) r b short)) ∙ is)

pub no_begin_at : (image : Image) (log : Log) (number : ℕ) (area : List ℕ) → number ≡ area_of log 0 → area ≡ image number → 1 < length area → get_or area 0 0 ≡ 1
    → ((s : ℕ) → IsSegmentSize s → BatchAt area 0 (begin log s) → ⊥) → HasNoBegin log image
no_begin_at image log number area same_number same more one none =
    let same : area ≡ image (area_of log 0) = same ∙ ap image same_number in
    record {
      more = subst (λ (l : List ℕ). 1 < length l) same more;
      open_gate = subst (λ (l : List ℕ). get_or l 0 0 ≡ 1) same one;
      no_begin = λ s sized is. none s sized (subst (λ (l : List ℕ). BatchAt l 0 (begin log s)) (sym same) is);
    }

last_is : (log : Log) → last_segment log ≡ 1999999999
last_is Journal = refl
last_is Index = refl

-- where the next batch begins, in numbers
pub next_bounds : (log : Log) (s : ℕ) (place p : Place) (n : ℕ) → p ≡ next_by log s place n → place.0 ≤ 1999999999
    → ((p.0 ≡ place.0) × (p.1 ≡ place.1 + n) × (p.0 < 1999999999 → place.1 + n < s)) ⊎ ((p.0 ≡ place.0 + 1) × (p.1 ≡ 0) × (place.0 < 1999999999))
next_bounds log s place p n is within = at (same_segment log s (place.0, place.1 + n)) refl is
  where
    stays : same_segment log s (place.0, place.1 + n) ≡ true → place.0 < 1999999999 → place.1 + n < s
    stays same below = let last = last_is log in grind (arith, nat_tests)

    goes : same_segment log s (place.0, place.1 + n) ≡ false → place.0 < 1999999999
    goes other = let last = last_is log in grind (arith, nat_tests)

    at : (b : Bool) → same_segment log s (place.0, place.1 + n) ≡ b → p ≡ (if b then (place.0, place.1 + n) else next_segment place)
        → ((p.0 ≡ place.0) × (p.1 ≡ place.1 + n) × (p.0 < 1999999999 → place.1 + n < s)) ⊎ ((p.0 ≡ place.0 + 1) × (p.1 ≡ 0) × (place.0 < 1999999999))
    at true same e = inl (ap (λ (q : Place). q.0) e, ap (λ (q : Place). q.1) e, λ below. stays same (omega (arith, below, ap (λ (q : Place). q.0) e)))
    at false other e = inr (ap (λ (q : Place). q.0) e, ap (λ (q : Place). q.1) e, goes other)

module _ (v : OpeningView) (b : List Batch) (d : DiskState) (batch : Batch) (so_far : ReadBehind v b d) (hand : IsAtHand v d) (held : v.log.place.1 < length v.area) (stands : BatchAt v.area v.log.place.1 batch) where
  at_end : v.log.place ≡ log_end v.log.log v.log.segment_size b
  at_end = ap (λ (x : GateView). x.place) so_far.shown

  there : BatchAt (d.reads (area_of v.log.log (log_end v.log.log v.log.segment_size b).0)) (log_end v.log.log v.log.segment_size b).1 batch
  there = subst (λ (p : Place). BatchAt (d.reads (area_of v.log.log p.0)) p.1 batch) at_end (subst (λ (l : List ℕ). BatchAt l v.log.place.1 batch) (hand.same held) stands)

  hand_on : behind_batch v.log.place batch ≡ next v.log.log v.log.segment_size v.log.place batch → IsAtHand (record { log = appended v.log batch; has_begin = v.has_begin; area = v.area }) d
  hand_on is =
      let area = hand.same held in
      record {
        durable = subst (λ (p : Place). IsDurable (area_of v.log.log p.0) (d.reads (area_of v.log.log p.0)) d) is hand.durable;
        more = subst (λ (p : Place). 1 < length (d.reads (area_of v.log.log p.0))) is hand.more;
        gate = subst (λ (p : Place). p.1 < length (d.reads (area_of v.log.log p.0))) is (subst (λ (l : List ℕ). v.log.place.1 + size batch < length l) area stands.followed);
        same = λ _. subst (λ (p : Place). v.area ≡ d.reads (area_of v.log.log p.0)) is area;
      }

  read_on : ReadBehind (record { log = appended v.log batch; has_begin = v.has_begin; area = v.area }) (b ++ batch ∷ []) d
  read_on = record {
    with_begin = so_far.with_begin;
    sized = so_far.sized;
    holds = holds_snoc v.log.log v.log.segment_size d.reads (0, 0) (begin v.log.log v.log.segment_size ∷ b) batch so_far.holds there;
    shown = λ i. record {
      log = v.log.log;
      segment_size = v.log.segment_size;
      limit = v.log.limit;
      place = (ap (λ (p : Place). next v.log.log v.log.segment_size p batch) at_end ∙ sym (end_snoc v.log.log v.log.segment_size (0, 0) (begin v.log.log v.log.segment_size ∷ b) batch)) i;
      gated = (appended v.log batch).gated;
      places = (ap (λ (l : List Place). l ++ replicate (length batch) v.log.place) (ap (λ (x : GateView). x.places) so_far.shown)
          ∙ ap (λ (p : Place). places_from v.log.log v.log.segment_size (next v.log.log v.log.segment_size (0, 0) (begin v.log.log v.log.segment_size)) b ++ replicate (length batch) p) at_end
          ∙ sym (places_snoc v.log.log v.log.segment_size (next v.log.log v.log.segment_size (0, 0) (begin v.log.log v.log.segment_size)) b batch)) i;
      bytes = (ap (λ (n : ℕ). n + size batch) (ap (λ (x : GateView). x.bytes) so_far.shown) ∙ sym (bytes_snoc (begin v.log.log v.log.segment_size ∷ b) batch)) i;
      stopped = (ap (λ (x : GateView). x.stopped) so_far.shown) i;
    };
    durable = λ k lt. ⊎_elim
        (λ stays. so_far.durable k (omega (arith, lt, ap (λ (p : Place). p.0) stays)))
        (λ goes. ⊎_elim
        (λ below. so_far.durable k below)
        (λ same. subst (λ (n : ℕ). IsDurable (area_of v.log.log n) (d.reads (area_of v.log.log n)) d) (sym same) hand.durable)
        (below_or_at k v.log.place.0 (omega (arith, lt, ap (λ (p : Place). p.0) goes))))
        (next_cases v.log.log v.log.segment_size v.log.place batch);
    at_hand = λ gated. hand_on (sym (ap (λ (x : Bool). if x then behind_batch v.log.place batch else next_segment v.log.place) gated));
  }
    where
      below_or_at : (k n : ℕ) → k < n + 1 → (k < n) ⊎ (k ≡ n)
      below_or_at k n lt = grind arith

  pub read_further : (w : OpeningView) → IsFurther batch v w → w.area ≡ v.area → ReadBehind w (b ++ batch ∷ []) d
  read_further w is same =
      let e : record { log = appended v.log batch; has_begin = v.has_begin; area = v.area } ≡ w = λ i. record { log = sym is.log i; has_begin = sym is.has_begin i; area = sym same i } in
      subst (λ (x : OpeningView). ReadBehind x (b ++ batch ∷ []) d) e read_on

-- the area of the next batch is let go
gone : (v : OpeningView) (b : List Batch) (d : DiskState) → ReadBehind v b d → ReadBehind (record v { area = [] }) b d
gone v b d so_far = record {
  with_begin = so_far.with_begin;
  sized = so_far.sized;
  holds = so_far.holds;
  shown = so_far.shown;
  durable = so_far.durable;
  at_hand = λ gated. let hand = so_far.at_hand gated in record { durable = hand.durable; more = hand.more; gate = hand.gate; same = λ none. absurd (omega (arith, none)) };
}

-- at hand no batch is left, or one more
module _ (v w : OpeningView) (b : List Batch) (d : DiskState) (so_far : ReadBehind v b d) (gated : v.log.gated ≡ true) (held : v.log.place.1 < length v.area) where
  waits : IsShut v.log.place.1 v.area → HasEnded v d
  waits shut c now = subst (λ (x : Bool). Waits x v.log.place.1 (c (area_of v.log.log v.log.place.0))) (sym gated)
      (subst (λ (l : List ℕ). Waits true v.log.place.1 l) (sym ((so_far.at_hand gated).durable c now))
      (subst (λ (l : List ℕ). IsShut v.log.place.1 l) ((so_far.at_hand gated).same held) shut, (so_far.at_hand gated).more))

  pub told : (found : Option (Vec (Vec ℕ Global) Global)) → MatchOption found (w ≡ record v { area = [] }) (λ r. IsFurther (batch_of r.items) v w × (w.area ≡ v.area))
      → MatchOption found (IsShut v.log.place.1 v.area) (λ r. BatchAt v.area v.log.place.1 (batch_of r.items))
      → MatchOption found (HasRead w b d × HasEnded w d) (λ r. HasRead w (b ++ batch_of r.items ∷ []) d)
  told None is shut = subst (λ (x : OpeningView). HasRead x b d × HasEnded x d) (sym is) (inl (gone v b d so_far), waits shut)
  told (Some r) is stands = inl (read_further v b d (batch_of r.items) so_far (so_far.at_hand gated) held stands w is.0 is.1)
