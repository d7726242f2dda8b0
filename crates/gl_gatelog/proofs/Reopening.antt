-- What opening answers, by what the areas of the log read as.
use Rattle.std.proofs.Common.{◌≡◌, if◌then◌else◌, inl, inr, ⊎_elim, ◌⊎◌, ℕ, ◌≤◌, ◌<◌, List, [], refl, sym, ◌∙◌, ap, subst, Bool, true, false, Result, Err, IsErrOf}
use Rattle.std.proofs.lemmas.Bool.{false≢true}
use Rattle.gl_outside.specs.Disk.{Image, DiskState, LeavesOnly, IsUnchanged}
use Rattle.gl_outside.proofs.Moments.{then as joined, weaker}
use Rattle.gl_gatelog.specs.declared.kind.Log.{Log}
use Rattle.gl_gatelog.specs.declared.kind.LogFault.{LogFault}
use Rattle.gl_gatelog.specs.declared.kind.LogFault.TheVariants.{Damaged}
use Rattle.gl_gatelog.specs.Batch.{Batch}
use Rattle.gl_gatelog.specs.Gate.{IsClosed}
use Rattle.gl_gatelog.specs.Log.{area_of, Place, last_segment, log_end, LogIs}
use Rattle.gl_gatelog.specs.View.{GateView, begun}
use Rattle.gl_gatelog.specs.Stand.{StandsOn, IsBegun, LeftByOpening}
use Rattle.gl_gatelog.specs.Reading.{Reading, Fresh, Whole, Broken, ReadsAs, IsBroken, HasNoBegin, IsOpenFault, FaultReads, IsReopened, IsAloneBehind, batches_in, LeftByReading}
use Rattle.gl_gatelog.specs.Progress.{OpeningView, ReadBehind, IsUnbegun, HasRead, HasEnded, IsOfOne, IsEmptyBeyond, at_begin, unread, finished}
use Rattle.gl_gatelog.proofs.Readings.{one_reading}
use Rattle.gl_gatelog.proofs.TakenUp.{broken_reading, whole_reading, reopened_is}
use Rattle.gl_gatelog.proofs.Steps.{shut_or_none}

-- the next batch is where the log is broken
pub fault_reads : {T : Type 0} (v : OpeningView) (b : List Batch) (d : DiskState) (log : Log) (image : Image) (e : LogFault) (r : Result T LogFault) → r ≡ Err e → v.log.log ≡ log → d.reads ≡ image → HasRead v b d
    → IsOpenFault e ⊎ (e ≡ Damaged (area_of v.log.log v.log.place.0) v.log.place.1)
    → (IsErrOf r (Damaged (area_of v.log.log v.log.place.0) v.log.place.1) → (v.has_begin ≡ true) × IsBroken (d.reads (area_of v.log.log v.log.place.0)) v.log.place.1)
    → FaultReads log image e
fault_reads v b d log image e r is same_log same_image read (inl fault) damaged = inl fault
fault_reads v b d log image e r is same_log same_image (inl so_far) (inr broken) damaged =
    inr (
      v.log.place.0,
      v.log.place.1,
      broken ∙ ap (λ (l : Log). Damaged (area_of l v.log.place.0) v.log.place.1) same_log,
      subst (λ (l : Log). ReadsAs l image (Broken v.log.place.0 v.log.place.1)) same_log
          (subst (λ (c : Image). ReadsAs v.log.log c (Broken v.log.place.0 v.log.place.1)) same_image (broken_reading v b d so_far (damaged (is ∙ ap (λ (x : LogFault). Err x) broken)).1)),
    )
fault_reads v b d log image e r is same_log same_image (inr none) (inr broken) damaged =
    absurd (false≢true (sym none.1.no_begin ∙ (damaged (is ∙ ap (λ (x : LogFault). Err x) broken)).0))

pub begin_reads : {T : Type 0} (log : Log) (image : Image) (e : LogFault) (r : Result T LogFault) → r ≡ Err e → IsOpenFault e ⊎ (e ≡ Damaged (area_of log 0) 0) → (IsErrOf r (Damaged (area_of log 0) 0) → HasNoBegin log image) → FaultReads log image e
begin_reads log image e r is (inl fault) damaged = inl fault
begin_reads log image e r is (inr broken) damaged = inr (0, 0, broken, inr (refl, refl, damaged (is ∙ ap (λ (x : LogFault). Err x) broken)))

-- a refusal, by what the areas read as
abbrev pub Refuses : Log → Reading → LogFault → Type 0
Refuses log Fresh e = IsOpenFault e
Refuses log (Whole s b) e = IsOpenFault e
Refuses log (Broken k at) e = IsOpenFault e ⊎ (e ≡ Damaged (area_of log k) at)

fault_refuses : (log : Log) (r : Reading) (e : LogFault) → IsOpenFault e → Refuses log r e
fault_refuses log Fresh e fault = fault
fault_refuses log (Whole s b) e fault = fault
fault_refuses log (Broken k at) e fault = inl fault

pub refuses : (log : Log) (image : Image) (e : LogFault) → FaultReads log image e → (r : Reading) → ReadsAs log image r → Refuses log r e
refuses log image e (inl fault) r is = fault_refuses log r e fault
refuses log image e (inr broken) r is = subst (λ (t : Reading). Refuses log t e) (one_reading log image (Broken broken.0 broken.1) r broken.3 is) (inr broken.2)

pub only_read_on : (d0 d1 d2 : DiskState) → LeavesOnly d0 d1 d0.may_leave → IsUnchanged d0 d1 → LeavesOnly d1 d2 d1.may_leave → LeavesOnly d0 d2 d0.may_leave
only_read_on d0 d1 d2 first same second = joined d0 d1 d2 d0.may_leave d1.may_leave d0.may_leave first second (λ c now. now) (λ c now. same.images c now)

pub unchanged_on : (d0 d1 d2 : DiskState) → IsUnchanged d0 d1 → IsUnchanged d1 d2 → IsUnchanged d0 d2
unchanged_on d0 d1 d2 first second = record { reads = second.reads ∙ first.reads; images = λ c now. first.images c (second.images c now) }

-- an answer, by what the areas read as
abbrev pub Takes : Log → ℕ → ℕ → Image → Reading → GateView → Type 0
Takes log segment limit image Fresh v = v ≡ begun log segment limit
Takes log segment limit image (Whole s b) v = IsReopened log s limit b image v
Takes log segment limit image (Broken k at) v = ⊥

left_as_before : (log : Log) (segment : ℕ) (d : DiskState) (r : Reading) (c : Image) → d.may_leave c → LeftByReading log segment d r c
left_as_before log segment d Fresh c now = inl now
left_as_before log segment d (Whole s b) c now = now
left_as_before log segment d (Broken k at) c now = now

-- the fields with which a reader began
pub record Begins (log : Log) (segment limit : ℕ) (v : OpeningView) : Type 0 where
  pub same_log : v.log.log ≡ log
  pub same_limit : v.log.limit ≡ limit
  pub same_size : v.has_begin ≡ false → v.log.segment_size ≡ segment

pub begins : (log : Log) (segment limit : ℕ) (v : OpeningView) → v.log ≡ at_begin log segment limit v → Begins log segment limit v
begins log segment limit v is = at v.has_begin refl is
  where
    at : (b : Bool) → v.has_begin ≡ b → v.log ≡ (if b then begun log v.log.segment_size limit else unread log segment limit v.log.gated) → Begins log segment limit v
    at true has e = record { same_log = ap (λ (x : GateView). x.log) e; same_limit = ap (λ (x : GateView). x.limit) e; same_size = λ none. absurd (false≢true (sym none ∙ has)) }
    at false has e = record { same_log = ap (λ (x : GateView). x.log) e; same_limit = ap (λ (x : GateView). x.limit) e; same_size = λ none. ap (λ (x : GateView). x.segment_size) e }

module _ (log : Log) (segment limit : ℕ) (o1 o2 : OpeningView) (s0 s2 : DiskState) (more : List Batch) (value : o1.log ≡ at_begin log segment limit o1) (of_one : IsOfOne o1 o2) (same : IsUnchanged s0 s2) (ended : HasEnded o2 s2) where
  same_log : o2.log.log ≡ log
  same_log = of_one.log ∙ (begins log segment limit o1 value).same_log

  same_limit : o2.log.limit ≡ limit
  same_limit = of_one.limit ∙ (begins log segment limit o1 value).same_limit

  whole_is : ReadBehind o2 more s2 → ReadsAs log s0.reads (Whole o2.log.segment_size more)
  whole_is so_far =
      subst (λ (c : Image). LogIs log o2.log.segment_size more c) same.reads
      (subst (λ (l : Log). LogIs l o2.log.segment_size more s2.reads) same_log (whole_reading o2 more s2 so_far ended))

  fresh_is : IsUnbegun o2 s2 → ReadsAs log s0.reads Fresh
  fresh_is none =
      subst (λ (c : Image). IsClosed 0 (c (area_of log 0))) same.reads
      (subst (λ (l : Log). IsClosed 0 (s2.reads (area_of l 0))) same_log (shut_or_none o2.log.gated 0 (s2.reads (area_of o2.log.log 0)) (none.waits s2.reads s2.is_image)))

  taken : (v : GateView) → v ≡ finished o2 → ReadBehind o2 more s2 → IsReopened log o2.log.segment_size limit more s0.reads v
  taken v is so_far =
      let same_view : o2.log ≡ v = sym (is ∙ ap (λ (x : Bool). if x then o2.log else begun o2.log.log o2.log.segment_size o2.log.limit) so_far.with_begin) in
      subst (λ (w : GateView). IsReopened log o2.log.segment_size limit more s0.reads w) same_view
      (subst (λ (c : Image). IsReopened log o2.log.segment_size limit more c o2.log) same.reads
      (subst (λ (n : ℕ). IsReopened log o2.log.segment_size n more s2.reads o2.log) same_limit
      (subst (λ (l : Log). IsReopened l o2.log.segment_size o2.log.limit more s2.reads o2.log) same_log (reopened_is o2 more s2 so_far ended))))

  begun_is : (v : GateView) → v ≡ finished o2 → IsUnbegun o2 s2 → v ≡ begun log segment limit
  begun_is v is none =
      is
      ∙ ap (λ (x : Bool). if x then o2.log else begun o2.log.log o2.log.segment_size o2.log.limit) none.no_begin
      ∙ (λ i. begun (same_log i) ((of_one.segment_size ∙ (begins log segment limit o1 value).same_size (sym of_one.has_begin ∙ none.no_begin)) i) (same_limit i))

  pub takes : HasRead o2 more s2 → (v : GateView) → v ≡ finished o2 → (r : Reading) → ReadsAs log s0.reads r → Takes log segment limit s0.reads r v
  takes (inl so_far) v is r reads = subst (λ (t : Reading). Takes log segment limit s0.reads t v) (one_reading log s0.reads (Whole o2.log.segment_size more) r (whole_is so_far) reads) (taken v is so_far)
  takes (inr none) v is r reads = subst (λ (t : Reading). Takes log segment limit s0.reads t v) (one_reading log s0.reads Fresh r (fresh_is none.1) reads) (begun_is v is none.1)

  -- the premise on the areas behind
  empty_whole : ReadBehind o2 more s2 → IsAloneBehind log (Whole o2.log.segment_size more) s0 → IsEmptyBeyond o2.log s2
  empty_whole so_far alone c now k lt le =
      ap (λ (l : Log). c (area_of l k)) same_log
      ∙ alone c (same.images c now) k
      (subst (λ (l : Log). (log_end l o2.log.segment_size more).0 < k) same_log (subst (λ (p : Place). p.0 < k) (ap (λ (x : GateView). x.place) so_far.shown) lt))
      (subst (λ (l : Log). k ≤ last_segment l) same_log le)

  empty_fresh : IsUnbegun o2 s2 → IsAloneBehind log Fresh s0 → IsEmptyBeyond o2.log s2
  empty_fresh none alone c now k lt le =
      ap (λ (l : Log). c (area_of l k)) same_log
      ∙ alone c (same.images c now) k (subst (λ (p : Place). p.0 < k) none.place lt) (subst (λ (l : Log). k ≤ last_segment l) same_log le)

  pub stands : HasRead o2 more s2 → (v : GateView) (s3 : DiskState) → ((b : List Batch) → HasRead o2 b s2 → IsEmptyBeyond o2.log s2 → StandsOn v b s3)
      → (r : Reading) → ReadsAs log s0.reads r → IsAloneBehind log r s0 → StandsOn v (batches_in r) s3
  stands (inl so_far) v s3 standing r reads =
      subst (λ (t : Reading). IsAloneBehind log t s0 → StandsOn v (batches_in t) s3) (one_reading log s0.reads (Whole o2.log.segment_size more) r (whole_is so_far) reads)
      (λ alone. standing more (inl so_far) (empty_whole so_far alone))
  stands (inr none) v s3 standing r reads =
      subst (λ (t : Reading). IsAloneBehind log t s0 → StandsOn v (batches_in t) s3) (one_reading log s0.reads Fresh r (fresh_is none.1) reads)
      (λ alone. standing [] (inr (refl, none.1)) (empty_fresh none.1 alone))

  -- what opening leaves
  module _ (s3 : DiskState) (only : LeavesOnly s0 s2 s0.may_leave) where
    begun_left : IsUnbegun o2 s2 → LeavesOnly s2 s3 (LeftByOpening o2.log.log o2.log.segment_size s2) → LeavesOnly s0 s3 (LeftByReading log segment s0 Fresh)
    begun_left none second = joined s0 s2 s3 s0.may_leave (LeftByOpening o2.log.log o2.log.segment_size s2) (LeftByReading log segment s0 Fresh) only second (λ c now. inl now)
        (λ c left. ⊎_elim
        (λ now. inl (same.images c now))
        (λ after. inr (record {
          from = after.from;
          image = same.images after.from after.image;
          steps = subst (λ (n : ℕ). IsBegun log n after.from c) (of_one.segment_size ∙ (begins log segment limit o1 value).same_size (sym of_one.has_begin ∙ none.no_begin))
              (subst (λ (l : Log). IsBegun l o2.log.segment_size after.from c) same_log after.steps);
        }))
        left)

    pub any_moment : HasRead o2 more s2 → (o2.has_begin ≡ true → LeavesOnly s0 s3 s0.may_leave) → (IsUnbegun o2 s2 → IsEmptyBeyond o2.log s2 → LeavesOnly s2 s3 (LeftByOpening o2.log.log o2.log.segment_size s2))
        → (r : Reading) → ReadsAs log s0.reads r → IsAloneBehind log r s0 → LeavesOnly s0 s3 (LeftByReading log segment s0 r)
    any_moment (inl so_far) when_taken when_begun r reads alone = weaker s0 s3 s0.may_leave (LeftByReading log segment s0 r) (when_taken so_far.with_begin) (left_as_before log segment s0 r)
    any_moment (inr none) when_taken when_begun r reads alone =
        subst (λ (t : Reading). IsAloneBehind log t s0 → LeavesOnly s0 s3 (LeftByReading log segment s0 t)) (one_reading log s0.reads Fresh r (fresh_is none.1) reads)
        (λ behind. begun_left none.1 (when_begun none.1 (empty_fresh none.1 behind))) alone

    pub only_read : HasRead o2 more s2 → (o2.has_begin ≡ true → LeavesOnly s0 s3 s0.may_leave × IsUnchanged s0 s3) → (r : Reading) → ReadsAs log s0.reads r → (r ≡ Fresh → ⊥) → LeavesOnly s0 s3 s0.may_leave × IsUnchanged s0 s3
    only_read (inl so_far) when_taken r reads not_fresh = when_taken so_far.with_begin
    only_read (inr none) when_taken r reads not_fresh = absurd (not_fresh (one_reading log s0.reads r Fresh reads (fresh_is none.1)))
