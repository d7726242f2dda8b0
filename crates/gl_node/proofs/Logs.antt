-- What reading a log finds, in the node's words.
use Rattle.std.proofs.Common.{◌≡◌, inl, inr, ◌⊎◌, ℕ, ◌+◌, List, [], ◌∷◌, ◌++◌, length, replicate, Bool, true, false, if◌then◌else◌, refl, sym, ◌∙◌, ap, subst, arith, length-append}
use Rattle.std.proofs.lemmas.Bool.{false≢true}
use Rattle.std.proofs.lemmas.Grind.{flat_map-append}
use Rattle.std.proofs.lemmas.List.{append-nil, length-replicate}
use Rattle.gl_outside.specs.Disk.{Image, DiskState}
use Rattle.gl_gatelog.specs.declared.kind.Log.{Log}
use Rattle.gl_gatelog.specs.declared.kind.LogFault.{LogFault}
use Rattle.gl_gatelog.specs.declared.kind.LogFault.TheVariants as fault
use Rattle.gl_gatelog.specs.Batch.{Batch, BatchAt}
use Rattle.gl_gatelog.specs.Log.{Holds, Place, area_of, begin, log_end, records_of}
use Rattle.gl_gatelog.specs.Progress.{OpeningView, ReadBehind, HasRead, IsFurther, IsNoFurther, at_begin, unread}
use Rattle.gl_gatelog.specs.Reading.{IsBroken, IsOpenFault}
use Rattle.gl_gatelog.specs.View.{GateView, begun}
use Rattle.gl_node.specs.declared.fault.OpenFault.TheVariants.{Damaged}
use Rattle.gl_node.specs.Damage.{UnlawfulAt}
use Rattle.gl_node.specs.Opening.{IsOf, open_fault_of}
use Rattle.gl_node.proofs.Damages.{behind}

-- a fault that the node tells as damage is the log's
pub damage_is : (log log2 : Log) (e : LogFault) (area at : ℕ) → open_fault_of log e ≡ Damaged log2 area at → (log2 ≡ log) × (e ≡ fault.Damaged area at)
damage_is log log2 (fault.Damaged area2 at2) area at is = ((cc is), (cc is))
damage_is log log2 fault.DiskFault area at is = cc is
damage_is log log2 (fault.LogFull bytes limit) area at is = cc is
damage_is log log2 fault.RecordTooLong area at is = cc is
damage_is log log2 fault.Stopped area at is = cc is
damage_is log log2 fault.OutOfMemory area at is = cc is

-- what stands is what is read
pub place_is : (v : OpeningView) (b : List Batch) (d : DiskState) → ReadBehind v b d → v.log.place ≡ log_end v.log.log v.log.segment_size b
place_is v b d so_far = ap (λ (x : GateView). x.place) so_far.shown

module _ (log : Log) (P : List (List ℕ) → Type 0) where
  unlawful_at : (v : OpeningView) (b : List Batch) (d : DiskState) → ReadBehind v b d → v.log.log ≡ log → P (records_of b)
      → IsBroken (d.reads (area_of v.log.log v.log.place.0)) v.log.place.1
      ⊎ ((batch : Batch) × BatchAt (d.reads (area_of v.log.log v.log.place.0)) v.log.place.1 batch × (P (records_of b ++ batch) → ⊥))
      → UnlawfulAt log d.reads P (area_of v.log.log v.log.place.0) v.log.place.1
  unlawful_at v b d so_far same_log has bad =
      subst (λ (l : Log). UnlawfulAt l d.reads P (area_of v.log.log v.log.place.0) v.log.place.1) same_log
      (inr (
        v.log.place,
        refl,
        refl,
        record {
          segment_size = v.log.segment_size;
          batches = b;
          sized = so_far.sized;
          holds = so_far.holds;
          so_far = has;
          here = sym (place_is v b d so_far);
          unlawful = bad;
        },
      ))

  -- the next batch doesn't read
  pub broken_at : (v : OpeningView) (b : List Batch) (d : DiskState) → HasRead v b d → v.has_begin ≡ true → v.log.log ≡ log → P (records_of b)
      → IsBroken (d.reads (area_of v.log.log v.log.place.0)) v.log.place.1 → UnlawfulAt log d.reads P (area_of v.log.log v.log.place.0) v.log.place.1
  broken_at v b d (inl so_far) has_begin same_log has broken = unlawful_at v b d so_far same_log has (inl broken)
  broken_at v b d (inr none) has_begin same_log has broken = absurd (false≢true (sym none.1.no_begin ∙ has_begin))

  -- or its records aren't taken
  pub not_taken_at : (v w : OpeningView) (b : List Batch) (batch : Batch) (d d2 : DiskState) → HasRead v b d → HasRead w (b ++ batch ∷ []) d2 → IsFurther batch v w → v.log.log ≡ log
      → d2.reads ≡ d.reads → P (records_of b) → (P (records_of b ++ batch) → ⊥) → UnlawfulAt log d.reads P (area_of v.log.log v.log.place.0) v.log.place.1
  not_taken_at v w b batch d d2 (inl so_far) (inl more) further same_log same_reads has refused =
      unlawful_at v b d so_far same_log has (inr (batch, there, refused))
    where
      size_is : w.log.segment_size ≡ v.log.segment_size
      size_is = ap (λ (x : GateView). x.segment_size) further.log

      log_is : w.log.log ≡ v.log.log
      log_is = ap (λ (x : GateView). x.log) further.log

      holds : Holds v.log.log v.log.segment_size d.reads (0, 0) (begin v.log.log v.log.segment_size ∷ (b ++ batch ∷ []))
      holds = subst (λ (c : Image). Holds v.log.log v.log.segment_size c (0, 0) (begin v.log.log v.log.segment_size ∷ (b ++ batch ∷ []))) same_reads
          (subst (λ (l : Log). Holds l v.log.segment_size d2.reads (0, 0) (begin l v.log.segment_size ∷ (b ++ batch ∷ []))) log_is
          (subst (λ (n : ℕ). Holds w.log.log n d2.reads (0, 0) (begin w.log.log n ∷ (b ++ batch ∷ []))) size_is more.holds))

      there : BatchAt (d.reads (area_of v.log.log v.log.place.0)) v.log.place.1 batch
      there = subst (λ (p : Place). BatchAt (d.reads (area_of v.log.log p.0)) p.1 batch) (sym (place_is v b d so_far))
          (behind v.log.log v.log.segment_size d.reads (0, 0) (begin v.log.log v.log.segment_size ∷ b) batch [] holds)
  not_taken_at v w b batch d d2 (inl so_far) (inr none) further same_log same_reads has refused =
      absurd (omega (arith, ap (λ (l : List Batch). length l) none.0, length-append b (batch ∷ [])))
  not_taken_at v w b batch d d2 (inr none) (inl more) further same_log same_reads has refused =
      absurd (false≢true (sym none.1.no_begin ∙ sym further.has_begin ∙ more.with_begin))
  not_taken_at v w b batch d d2 (inr none) (inr none2) further same_log same_reads has refused =
      absurd (omega (arith, ap (λ (l : List Batch). length l) none2.0, length-append b (batch ∷ [])))

-- the reader's own fields, as it goes on
pub of_begin : (log : Log) (segment limit : ℕ) (v : OpeningView) → v.log ≡ at_begin log segment limit v → IsOf log segment limit 0 v
of_begin log segment limit v is = at v.has_begin refl is
  where
    at : (b : Bool) → v.has_begin ≡ b → v.log ≡ (if b then begun log v.log.segment_size limit else unread log segment limit v.log.gated) → IsOf log segment limit 0 v
    at true has e = record {
      log_is = ap (λ (x : GateView). x.log) e;
      limit_is = ap (λ (x : GateView). x.limit) e;
      running = ap (λ (x : GateView). x.stopped) e;
      count_is = ap (λ (x : GateView). length x.places) e;
      fresh = λ none. refl;
      sized = λ none. absurd (false≢true (sym none ∙ has));
    }
    at false has e = record {
      log_is = ap (λ (x : GateView). x.log) e;
      limit_is = ap (λ (x : GateView). x.limit) e;
      running = ap (λ (x : GateView). x.stopped) e;
      count_is = ap (λ (x : GateView). length x.places) e;
      fresh = λ none. refl;
      sized = λ none. ap (λ (x : GateView). x.segment_size) e;
    }

pub of_further : (log : Log) (segment limit count more : ℕ) (batch : Batch) (v w : OpeningView) → IsOf log segment limit count v → v.has_begin ≡ true → IsFurther batch v w → more ≡ count + length batch → IsOf log segment limit more w
of_further log segment limit count more batch v w is with_begin further count_more = record {
  log_is = ap (λ (x : GateView). x.log) further.log ∙ is.log_is;
  limit_is = ap (λ (x : GateView). x.limit) further.log ∙ is.limit_is;
  running = ap (λ (x : GateView). x.stopped) further.log ∙ is.running;
  count_is = omega (
    arith,
    ap (λ (x : GateView). length x.places) further.log,
    length-append v.log.places (replicate (length batch) v.log.place),
    length-replicate (length batch) v.log.place,
    is.count_is,
    count_more,
  );
  fresh = λ none. absurd (false≢true (sym none ∙ further.has_begin ∙ with_begin));
  sized = λ none. absurd (false≢true (sym none ∙ further.has_begin ∙ with_begin));
}

pub of_end : (log : Log) (segment limit count : ℕ) (v w : OpeningView) → IsOf log segment limit count v → IsNoFurther v w → IsOf log segment limit count w
of_end log segment limit count v w is end = record {
  log_is = ap (λ (x : GateView). x.log) end.log ∙ is.log_is;
  limit_is = ap (λ (x : GateView). x.limit) end.log ∙ is.limit_is;
  running = ap (λ (x : GateView). x.stopped) end.log ∙ is.running;
  count_is = ap (λ (x : GateView). length x.places) end.log ∙ is.count_is;
  fresh = λ none. is.fresh (sym end.has_begin ∙ none);
  sized = λ none. ap (λ (x : GateView). x.segment_size) end.log ∙ is.sized (sym end.has_begin ∙ none);
}

pub records_push : (b : List Batch) (batch : Batch) → records_of (b ++ batch ∷ []) ≡ records_of b ++ batch
records_push b batch = flat_map-append (λ (x : Batch). x) b (batch ∷ []) ∙ ap (λ l. records_of b ++ l) (append-nil batch)

-- a fault of the next batch, told as damage
pub next_damage : (log log2 : Log) (P : List (List ℕ) → Type 0) (v : OpeningView) (b : List Batch) (d d0 : DiskState) (e : LogFault) (area at : ℕ) → HasRead v b d → v.log.log ≡ log → d.reads ≡ d0.reads
    → P (records_of b) → open_fault_of log e ≡ Damaged log2 area at
    → IsOpenFault e ⊎ (e ≡ fault.Damaged (area_of v.log.log v.log.place.0) v.log.place.1)
    → (e ≡ fault.Damaged (area_of v.log.log v.log.place.0) v.log.place.1 → (v.has_begin ≡ true) × IsBroken (d.reads (area_of v.log.log v.log.place.0)) v.log.place.1)
    → (log2 ≡ log) × UnlawfulAt log d0.reads P area at
next_damage log log2 P v b d d0 e area at read same_log same_reads has told (inl (inl other)) broken =
    let is = damage_is log log2 e area at told in cc (is.1, other)
next_damage log log2 P v b d d0 e area at read same_log same_reads has told (inl (inr other)) broken =
    let is = damage_is log log2 e area at told in cc (is.1, other)
next_damage log log2 P v b d d0 e area at read same_log same_reads has told (inr here) broken =
    let is = damage_is log log2 e area at told in
    let place : fault.Damaged (area_of v.log.log v.log.place.0) v.log.place.1 ≡ fault.Damaged area at = sym here ∙ is.1 in
    let same_area : area_of v.log.log v.log.place.0 ≡ area = cc place in
    let same_at : v.log.place.1 ≡ at = cc place in
    let found = broken here in (
      is.0,
      subst (λ (c : Image). UnlawfulAt log c P area at) same_reads
          (subst (λ (n : ℕ). UnlawfulAt log d.reads P n at) same_area
          (subst (λ (n : ℕ). UnlawfulAt log d.reads P (area_of v.log.log v.log.place.0) n) same_at
          (broken_at log P v b d read found.0 same_log has found.1))),
    )

-- records that aren't taken, told as damage
pub batch_damage : (log log2 : Log) (P : List (List ℕ) → Type 0) (v w : OpeningView) (b : List Batch) (batch : Batch) (d d2 d0 : DiskState) (area at area2 at2 : ℕ) → HasRead v b d → HasRead w (b ++ batch ∷ []) d2
    → IsFurther batch v w → v.log.log ≡ log → d2.reads ≡ d.reads → d.reads ≡ d0.reads → P (records_of b) → (P (records_of b ++ batch) → ⊥)
    → area ≡ area_of v.log.log v.log.place.0 → at ≡ v.log.place.1 → Damaged log area at ≡ Damaged log2 area2 at2
    → (log2 ≡ log) × UnlawfulAt log d0.reads P area2 at2
batch_damage log log2 P v w b batch d d2 d0 area at area2 at2 read more further same_log same_now same_reads has refused same_area same_at told =
    let log_is : log2 ≡ log = cc told in
    let area_is : area_of v.log.log v.log.place.0 ≡ area2 = cc (told, same_area) in
    let at_is : v.log.place.1 ≡ at2 = cc (told, same_at) in (
      log_is,
      subst (λ (c : Image). UnlawfulAt log c P area2 at2) same_reads
          (subst (λ (n : ℕ). UnlawfulAt log d.reads P n at2) area_is
          (subst (λ (n : ℕ). UnlawfulAt log d.reads P (area_of v.log.log v.log.place.0) n) at_is
          (not_taken_at log P v w b batch d d2 read more further same_log same_now has refused))),
    )
