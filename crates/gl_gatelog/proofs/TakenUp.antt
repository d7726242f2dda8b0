-- A log that was read to its end stands on the disk.
use Rattle.std.proofs.Common.{◌≡◌, inl, inr, ⊎_elim, ◌⊎◌, ℕ, ◌≤◌, ◌<◌, List, [], ◌∷◌, refl, sym, ◌∙◌, ap, subst, arith, Bool, true, false, if◌then◌else◌}
use Rattle.std.proofs.lemmas.Bool.{false≢true}
use Rattle.gl_outside.specs.Disk.{Image, DiskState}
use Rattle.gl_gatelog.specs.declared.kind.Log.{Log}
use Rattle.gl_gatelog.specs.Batch.{Batch, BatchAt}
use Rattle.gl_gatelog.specs.Gate.{IsClosed, Waits}
use Rattle.gl_gatelog.specs.Log.{area_of, Place, begin, log_end, end_of, next, Holds, LogIs}
use Rattle.gl_gatelog.specs.View.{GateView}
use Rattle.gl_gatelog.specs.Stand.{StandsOn}
use Rattle.gl_gatelog.specs.Reading.{Broken, ReadsAs, IsBroken, IsReopened, Fresh, Whole}
use Rattle.gl_gatelog.specs.Progress.{OpeningView, ReadBehind, HasRead, HasEnded, IsEmptyBeyond, reading_of}
use Rattle.gl_gatelog.proofs.Chain.{next_cases, later}
use Rattle.gl_gatelog.proofs.Steps.{shut_or_none}

below_or_at : (m n : ℕ) → m ≤ n → (m < n) ⊎ (m ≡ n)
below_or_at m n le = grind arith

-- batches stand where every area in which one of them is is the same
pub holds_same : (log : Log) (s : ℕ) (old new : Image) (place : Place) (batches : List Batch)
    → ((k : ℕ) → k < (end_of log s place batches).0 → new (area_of log k) ≡ old (area_of log k))
    → (0 < (end_of log s place batches).1 → new (area_of log (end_of log s place batches).0) ≡ old (area_of log (end_of log s place batches).0))
    → Holds log s old place batches → Holds log s new place batches
holds_same log s old new place [] below last holds = tt
holds_same log s old new place (b ∷ batches) below last holds =
    let e : Place = end_of log s (next log s place b) batches in
    let rest = later log s (next log s place b) batches in
    let on : place.0 ≤ e.0 = ⊎_elim (λ stays. omega (arith, rest.segment, ap (λ (p : Place). p.0) stays)) (λ goes. omega (arith, rest.segment, ap (λ (p : Place). p.0) goes)) (next_cases log s place b) in
    let same : new (area_of log place.0) ≡ old (area_of log place.0) = ⊎_elim
    (λ lt. below place.0 lt)
    (λ here. ⊎_elim
    (λ stays. subst (λ (k : ℕ). new (area_of log k) ≡ old (area_of log k)) (sym here) (last (omega (arith, rest.byte (ap (λ (p : Place). p.0) stays ∙ here), ap (λ (p : Place). p.1) stays))))
    (λ goes. absurd (omega (arith, here, rest.segment, ap (λ (p : Place). p.0) goes)))
    (next_cases log s place b))
    (below_or_at place.0 e.0 on) in
    (subst (λ (l : List ℕ). BatchAt l place.1 b) (sym same) holds.0, holds_same log s old new (next log s place b) batches below last holds.1)

module _ (v : OpeningView) (b : List Batch) (d : DiskState) (so_far : ReadBehind v b d) where
  at_end : v.log.place ≡ log_end v.log.log v.log.segment_size b
  at_end = ap (λ (x : GateView). x.place) so_far.shown

  module _ (ended : HasEnded v d) where
    closed : (c : Image) → d.may_leave c → IsClosed (log_end v.log.log v.log.segment_size b).1 (c (area_of v.log.log (log_end v.log.log v.log.segment_size b).0))
    closed c now = subst (λ (p : Place). IsClosed p.1 (c (area_of v.log.log p.0))) at_end (shut_or_none v.log.gated v.log.place.1 (c (area_of v.log.log v.log.place.0)) (ended c now))

    same_last : (c : Image) → d.may_leave c → (gated : Bool) → v.log.gated ≡ gated → 0 < v.log.place.1 → c (area_of v.log.log v.log.place.0) ≡ d.reads (area_of v.log.log v.log.place.0)
    same_last c now true gated some = (so_far.at_hand gated).durable c now
    same_last c now false gated some = absurd (omega (arith, some, (subst (λ (x : Bool). Waits x v.log.place.1 (c (area_of v.log.log v.log.place.0))) gated (ended c now)).0))

    log_is : (c : Image) → d.may_leave c → LogIs v.log.log v.log.segment_size b c
    log_is c now = record {
      sized = so_far.sized;
      holds = holds_same v.log.log v.log.segment_size d.reads c (0, 0) (begin v.log.log v.log.segment_size ∷ b)
          (λ k lt. so_far.durable k (omega (arith, lt, ap (λ (p : Place). p.0) at_end)) c now)
          (subst (λ (p : Place). 0 < p.1 → c (area_of v.log.log p.0) ≡ d.reads (area_of v.log.log p.0)) at_end (same_last c now v.log.gated refl))
          so_far.holds;
      ends = closed c now;
    }

    pub taken_up : IsEmptyBeyond v.log d → StandsOn v.log b d
    taken_up empty = record {
      images = λ c now. record {
        log_is = log_is c now;
        behind = λ k lt le. empty c now k (omega (arith, lt, ap (λ (p : Place). p.0) at_end)) le;
      };
      gate = ended;
      place = at_end;
      places = ap (λ (x : GateView). x.places) so_far.shown;
      bytes = ap (λ (x : GateView). x.bytes) so_far.shown;
    }

    -- and its areas read as it
    pub whole_reading : LogIs v.log.log v.log.segment_size b d.reads
    whole_reading = log_is d.reads d.is_image

    pub reopened_is : IsReopened v.log.log v.log.segment_size v.log.limit b d.reads v.log
    reopened_is = record {
      shown = so_far.shown;
      waits = subst (λ (k : ℕ). Waits v.log.gated v.log.place.1 (d.reads (area_of v.log.log k))) (ap (λ (p : Place). p.0) at_end) (ended d.reads d.is_image);
    }

  pub broken_reading : IsBroken (d.reads (area_of v.log.log v.log.place.0)) v.log.place.1 → ReadsAs v.log.log d.reads (Broken v.log.place.0 v.log.place.1)
  broken_reading broken = inl (v.log.segment_size, b, record { sized = so_far.sized; holds = so_far.holds; place = sym at_end; broken = broken })

pub taken_up_read : (v : OpeningView) (b : List Batch) (d : DiskState) → HasRead v b d → v.has_begin ≡ true → HasEnded v d → IsEmptyBeyond v.log d → StandsOn v.log b d
taken_up_read v b d (inl so_far) has ended empty = taken_up v b d so_far ended empty
taken_up_read v b d (inr none) has ended empty = absurd (false≢true (sym none.1.no_begin ∙ has))

-- what was read, and what the areas read as
pub ended_reading : (v : OpeningView) (b : List Batch) (d : DiskState) → HasRead v b d → HasEnded v d → ReadsAs v.log.log d.reads (reading_of v b)
ended_reading v b d (inl so_far) ended =
    subst (λ (x : Bool). ReadsAs v.log.log d.reads (if x then Whole v.log.segment_size b else Fresh)) (sym so_far.with_begin) (whole_reading v b d so_far ended)
ended_reading v b d (inr none) ended =
    subst (λ (x : Bool). ReadsAs v.log.log d.reads (if x then Whole v.log.segment_size b else Fresh)) (sym none.1.no_begin)
    (shut_or_none v.log.gated 0 (d.reads (area_of v.log.log 0)) (none.1.waits d.reads d.is_image))

pub broken_reading_read : (v : OpeningView) (b : List Batch) (d : DiskState) → HasRead v b d → v.has_begin ≡ true → IsBroken (d.reads (area_of v.log.log v.log.place.0)) v.log.place.1 → ReadsAs v.log.log d.reads (Broken v.log.place.0 v.log.place.1)
broken_reading_read v b d (inl so_far) has broken = broken_reading v b d so_far broken
broken_reading_read v b d (inr none) has broken = absurd (false≢true (sym none.1.no_begin ∙ has))
