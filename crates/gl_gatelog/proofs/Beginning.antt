-- The begin batch of a new log.
use Rattle.std.proofs.Common.{◌≡◌, ◌≢◌, inl, inr, ⊎_elim, ℕ, ◌+◌, ◌^◌, ◌≤◌, ◌<◌, List, [], ◌∷◌, ◌++◌, length, take, drop, get_or, refl, sym, ◌∙◌, ap, arith, Bool, true, false, if◌then◌else◌}
use Rattle.std.specs.Int.{to_be_bytes, from_be_bytes, w64}
use Rattle.std.proofs.lemmas.Nat.{from_be_bytes-to_be_bytes_8}
use Rattle.std.proofs.lemmas.List.{take-append-drop, take-take, take_at, length-drop, length-take, get_or-take, get_or-drop, get_or_at}
use Rattle.std.proofs.lemmas.List.Elements.{All-nil, All-cons}
use Rattle.gl_outside.specs.Disk.{Image, DiskState, InArea, After, Follows}
use Rattle.gl_gatelog.specs.declared.kind.Log.{Log}
use Rattle.gl_gatelog.specs.Batch.{Batch, BatchAt, IsLawful, size, opened, staged}
use Rattle.gl_gatelog.specs.Gate.{IsOpened, ClosedOrOpened, Waits}
use Rattle.gl_gatelog.specs.Log.{last_segment, area_of, behind_batch, next_segment, next, begin, LogAlone, IsSegmentSize, same_segment}
use Rattle.gl_gatelog.specs.View.{begun}
use Rattle.gl_gatelog.specs.Stand.{StandsOn, IsEmptyBehind, LeftByOpening}
use Rattle.gl_gatelog.proofs.Chain.{one_within, apart}
use Rattle.gl_gatelog.proofs.Steps.{length-staged, shut_or_none}

pub lawful_begin : (log : Log) (s : ℕ) → IsLawful (begin log s)
lawful_begin log s = record { some = omega arith; few = omega arith; short = All-cons (λ (r : List ℕ). length r ≤ 2 ^ 22) _ [] (omega arith) (All-nil (λ (r : List ℕ). length r ≤ 2 ^ 22)) }

-- in one area
module _ (at : ℕ) (batch : Batch) (old new : List ℕ) (opens : IsOpened at (staged batch) old new) where
  pub fits : at + size batch < length new
  fits = omega (arith, ap length opens.opened, length-take (length (1 ∷ staged batch)) (drop at new), length-drop at new, length-staged batch)

  pub stands_opened : IsLawful batch → BatchAt new at batch
  stands_opened is_lawful = record {
    lawful = is_lawful;
    bytes =
        sym (take-take (size batch) (length (1 ∷ staged batch)) (drop at new) (omega (arith, length-staged batch)))
        ∙ ap (λ (l : List ℕ). take (size batch) l) opens.opened
        ∙ take_at (opened batch) (0 ∷ []) (size batch) (omega arith);
    followed = fits;
  }

  pub gate_behind : get_or new (at + size batch) 0 ≡ 0
  gate_behind =
      sym (get_or-drop at new (size batch) 0)
      ∙ sym (get_or-take (length (1 ∷ staged batch)) (drop at new) (size batch) 0 (omega (arith, length-staged batch)))
      ∙ ap (λ (l : List ℕ). get_or l (size batch) 0) opens.opened
      ∙ get_or_at (opened batch) 0 [] 0 (size batch) (omega arith)

module _ (log : Log) (s : ℕ) (sized : IsSegmentSize s) (old new : Image) (others : (b : ℕ) → b ≢ area_of log 0 → new b ≡ old b) (empty : (k : ℕ) → 0 < k → k ≤ last_segment log → old (area_of log k) ≡ [])
    (opens : IsOpened 0 (staged (begin log s)) (old (area_of log 0)) (new (area_of log 0))) where
  still_empty : (k : ℕ) → 0 < k → k ≤ last_segment log → new (area_of log k) ≡ []
  still_empty k lt le = others (area_of log k) (apart log k 0 (omega arith)) ∙ empty k lt le

  pub waits_behind : Waits (same_segment log s (behind_batch (0, 0) (begin log s))) (next log s (0, 0) (begin log s)).1 (new (area_of log (next log s (0, 0) (begin log s)).0))
  waits_behind = elim (same_segment log s (behind_batch (0, 0) (begin log s))) as (λ (b : Bool). Waits b (if b then behind_batch (0, 0) (begin log s) else next_segment (0, 0)).1 (new (area_of log (if b then behind_batch (0, 0) (begin log s) else next_segment (0, 0)).0))) [
    | true ↦ (
      record { there = fits 0 (begin log s) (old (area_of log 0)) (new (area_of log 0)) opens; shut = λ is_one. absurd (omega (arith, gate_behind 0 (begin log s) (old (area_of log 0)) (new (area_of log 0)) opens, is_one)) },
      omega (arith, fits 0 (begin log s) (old (area_of log 0)) (new (area_of log 0)) opens),
    )
    | false ↦ (refl, omega (arith, ap length (still_empty 1 (omega arith) (one_within log))))
  ]

  pub begun_log : LogAlone log s [] new
  begun_log = record {
    log_is = record {
      sized = sized;
      holds = (stands_opened 0 (begin log s) (old (area_of log 0)) (new (area_of log 0)) opens (lawful_begin log s), tt);
      ends = shut_or_none (same_segment log s (behind_batch (0, 0) (begin log s))) _ _ waits_behind;
    };
    behind = λ k lt le. still_empty k (omega (arith, lt)) le;
  }

-- the calls of opening
module _ (log : Log) (s : ℕ) (sized : IsSegmentSize s) (d0 d1 : DiskState) (empty : IsEmptyBehind log d0) (same : (c : Image) → d1.may_leave c → d0.may_leave c) where
  pub left_begun : (c : Image) → After d1 (InArea (area_of log 0) (ClosedOrOpened 0 (staged (begin log s)))) c → LeftByOpening log s d0 c
  left_begun c after =
      let was = same after.from after.image in
      inr (record {
        from = after.from;
        image = was;
        steps = record {
          elsewhere = after.steps.elsewhere;
          fresh_or_begun = ⊎_elim
              (λ closed. inl closed.closed)
              (λ opens. inr (begun_log log s sized after.from c after.steps.elsewhere (empty after.from was) opens))
              after.steps.there;
        };
      })

  pub begun_stands : (limit : ℕ) (d2 : DiskState) → Follows (InArea (area_of log 0) (IsOpened 0 (staged (begin log s)))) d1 d2 → StandsOn (begun log s limit) [] d2
  begun_stands limit d2 follows = record {
    images = λ c now. let after = follows c now in begun_log log s sized after.from c after.steps.elsewhere (empty after.from (same after.from after.image)) after.steps.there;
    gate = λ c now. let after = follows c now in waits_behind log s sized after.from c after.steps.elsewhere (empty after.from (same after.from after.image)) after.steps.there;
    place = refl;
    places = refl;
    bytes = omega arith;
  }

-- the begin batch is what its area begins with
begins_with : (area : List ℕ) (log : Log) (s : ℕ) → BatchAt area 0 (begin log s) → drop 0 area ≡ opened (begin log s) ++ drop 25 (drop 0 area)
begins_with area log s is = sym (take-append-drop 25 (drop 0 area)) ∙ ap (λ (l : List ℕ). l ++ drop 25 (drop 0 area)) is.bytes

pub size_bytes : (area : List ℕ) (log : Log) (s : ℕ) → BatchAt area 0 (begin log s) → take 8 (drop 17 area) ≡ to_be_bytes w64 s
size_bytes area log s is = ap (λ (l : List ℕ). take 8 (drop 17 l)) (begins_with area log s is)

-- the segment size that is read there is the one that it records
pub recorded_is : (area : List ℕ) (log : Log) (s size : ℕ) → s ≤ 2 ^ 30 → size < 2 ^ 64 → BatchAt area 0 (begin log s) → to_be_bytes w64 size ≡ take 8 (drop 17 area) → size ≡ s
recorded_is area log s size most fits is reads =
    sym (from_be_bytes-to_be_bytes_8 size fits) ∙ ap (λ (l : List ℕ). from_be_bytes w64 l) (reads ∙ size_bytes area log s is) ∙ from_be_bytes-to_be_bytes_8 s (omega (arith, most))
