-- Both logs are taken up: what their areas hold meanwhile.
use Rattle.std.proofs.Common.{◌≡◌, length, ◌≢◌, inl, inr, ⊎_elim, ℕ, ◌<◌, List, [], ◌∷◌, Bool, true, false, if◌then◌else◌, Option, None, Some, refl, sym, ◌∙◌, ap, subst, arith}
use Rattle.gl_outside.specs.Disk.{Image, DiskState, After, IsDurable, LeavesOnly}
use Rattle.gl_outside.proofs.Moments.{at_end, then as joined, weaker}
use Rattle.gl_gatelog.specs.declared.kind.Log.{Log}
use Rattle.gl_gatelog.specs.declared.kind.Log.TheVariants.{Journal, Index}
use Rattle.gl_gatelog.specs.Batch.{Batch}
use Rattle.gl_gatelog.specs.Gate.{AllWait, IsClosed, Waits}
use Rattle.gl_gatelog.specs.Log.{LogAlone, Place, area_of, begin}
use Rattle.gl_gatelog.specs.Progress.{OpeningView, HasRead, HasEnded, IsUnbegun, IsEmptyBeyond, finished}
use Rattle.gl_gatelog.specs.Stand.{IsBegun, IsSameBut, LeftByOpening, StandsOn}
use Rattle.gl_gatelog.specs.View.{GateView, begun}
use Rattle.gl_gatelog.proofs.Apart.{OnlyIn, other_area, other_log, other_stands}
use Rattle.gl_gatelog.proofs.Chain.{apart}
use Rattle.gl_gatelog.proofs.Steps.{shut_or_none}
use Rattle.gl_gatelog.proofs.TakenUp.{holds_same, taken_up}
use Rattle.gl_node.specs.Moments.{OnlyInLogs}
use Rattle.gl_node.specs.Opening.{BothStand, LogStands}
use Rattle.gl_node.specs.Standing.{EndsThere, LogShows}

-- in each image a log that was read stands as it was read
module _ (v : OpeningView) (b : List Batch) (d : DiskState) where
  pub read_stands : HasRead v b d → HasEnded v d → IsEmptyBeyond v.log d → (c : Image) → d.may_leave c → LogStands v b c
  read_stands (inl so_far) ended empty c now =
      let alone : LogAlone v.log.log v.log.segment_size b c = (taken_up v b d so_far ended empty).images c now in
      record { segment = Some v.log.segment_size; shows = alone.log_is; ends = alone.behind; size = refl }
  read_stands (inr none) ended empty c now = record {
    segment = None;
    shows = (shut_or_none v.log.gated 0 (c (area_of v.log.log 0)) (none.1.waits c now), none.0);
    ends = λ k some few. empty c now k (subst (λ (p : Place). p.0 < k) (sym none.1.place) some) few;
    size = tt;
  }

  -- and while it is begun
  pub begun_stands : b ≡ [] → IsUnbegun v d → IsEmptyBeyond v.log d → (c : Image) → After d (IsBegun v.log.log v.log.segment_size) c → LogStands v b c
  begun_stands no_batch none empty c after = ⊎_elim
      (λ fresh. record {
        segment = None;
        shows = (fresh, no_batch);
        ends = λ k some few.
            after.steps.elsewhere (area_of v.log.log k) (apart v.log.log k 0 (λ same. absurd (omega (arith, same, some))))
            ∙ empty after.from after.image k (subst (λ (p : Place). p.0 < k) (sym none.place) some) few;
        size = tt;
      })
      (λ (alone : LogAlone v.log.log v.log.segment_size [] c).
      let whole : LogAlone v.log.log v.log.segment_size b c = subst (λ (l : List Batch). LogAlone v.log.log v.log.segment_size l c) (sym no_batch) alone in
      record { segment = Some v.log.segment_size; shows = whole.log_is; ends = whole.behind; size = refl })
      after.steps.fresh_or_begun

-- a change of another log's first area leaves a log as it is
module _ (other : Log) (w : OpeningView) (differs : w.log.log ≢ other) where
  same_area : (x c : Image) → IsSameBut (area_of other 0) x c → (k : ℕ) → c (area_of w.log.log k) ≡ x (area_of w.log.log k)
  same_area x c same k = same (area_of w.log.log k) (other_area other w.log.log differs k 0)

  only_in : (x c : Image) → IsSameBut (area_of other 0) x c → OnlyIn other x c
  only_in x c same b away = same b (away 0 (omega arith))

  stands_shown : (segment : Option ℕ) (b : List Batch) (x c : Image) → IsSameBut (area_of other 0) x c
      → LogShows w.log.log x segment b → EndsThere w.log.log x segment b → LogShows w.log.log c segment b × EndsThere w.log.log c segment b
  stands_shown None b x c same shows ends = (
    (subst (λ (l : List ℕ). IsClosed 0 l) (sym (same_area x c same 0)) shows.0, shows.1),
    λ k some few. same_area x c same k ∙ ends k some few,
  )
  stands_shown (Some s) b x c same shows ends =
      let alone = other_log other w.log.log differs x c (only_in x c same) s b (record { log_is = shows; behind = ends }) in
      (alone.log_is, alone.behind)

  pub stands_still : (b : List Batch) (x c : Image) → IsSameBut (area_of other 0) x c → LogStands w b x → LogStands w b c
  stands_still b x c same stands =
      let shown = stands_shown stands.segment b x c same stands.shows stands.ends in
      record { segment = stands.segment; shows = shown.0; ends = shown.1; size = stands.size }

  module _ (d0 d1 : DiskState) (images : (c : Image) → d1.may_leave c → After d0 (IsSameBut (area_of other 0)) c) (reads : IsSameBut (area_of other 0) d0.reads d1.reads) where
    durable_still : (k : ℕ) (bytes : List ℕ) → IsDurable (area_of w.log.log k) bytes d0 → IsDurable (area_of w.log.log k) bytes d1
    durable_still k bytes durable c now =
        let after = images c now in
        same_area after.from c after.steps k ∙ durable after.from after.image

    read_k : (k : ℕ) → d1.reads (area_of w.log.log k) ≡ d0.reads (area_of w.log.log k)
    read_k k = same_area d0.reads d1.reads reads k

    wait_still : (gated : Bool) (k at : ℕ) → AllWait gated (area_of w.log.log k) at d0 → AllWait gated (area_of w.log.log k) at d1
    wait_still gated k at waits c now =
        let after = images c now in
        subst (λ (l : List ℕ). Waits gated at l) (sym (same_area after.from c after.steps k)) (waits after.from after.image)

    pub ended_still : HasEnded w d0 → HasEnded w d1
    ended_still ended = wait_still w.log.gated w.log.place.0 w.log.place.1 ended

    pub empty_still : IsEmptyBeyond w.log d0 → IsEmptyBeyond w.log d1
    empty_still empty c now k lt le =
        let after = images c now in
        same_area after.from c after.steps k ∙ empty after.from after.image k lt le

    pub read_still : (b : List Batch) → HasRead w b d0 → HasRead w b d1
    read_still b (inl so_far) = inl (record {
      with_begin = so_far.with_begin;
      sized = so_far.sized;
      holds = holds_same w.log.log w.log.segment_size d0.reads d1.reads (0, 0) (begin w.log.log w.log.segment_size ∷ b) (λ k lt. read_k k) (λ some. read_k _) so_far.holds;
      shown = so_far.shown;
      durable = λ k lt. durable_still k (d1.reads (area_of w.log.log k))
          (subst (λ (l : List ℕ). IsDurable (area_of w.log.log k) l d0) (sym (read_k k)) (so_far.durable k lt));
      at_hand = λ gated.
          let hand = so_far.at_hand gated in
          record {
            durable = durable_still w.log.place.0 (d1.reads (area_of w.log.log w.log.place.0))
                (subst (λ (l : List ℕ). IsDurable (area_of w.log.log w.log.place.0) l d0) (sym (read_k w.log.place.0)) hand.durable);
            more = subst (λ (l : List ℕ). 1 < length l) (sym (read_k w.log.place.0)) hand.more;
            gate = subst (λ (l : List ℕ). w.log.place.1 < length l) (sym (read_k w.log.place.0)) hand.gate;
            same = λ held. hand.same held ∙ sym (read_k w.log.place.0);
          };
    })
    read_still b (inr none) = inr (
      none.0,
      record {
        no_begin = none.1.no_begin;
        place = none.1.place;
        waits = wait_still w.log.gated 0 0 none.1.waits;
      },
    )

two_logs : Index ≢ Journal
two_logs same = cc same

in_logs : (x c : Image) → IsSameBut (area_of Journal 0) x c → OnlyInLogs x c
in_logs x c same b not_journal not_index = same b (not_journal 0 (omega arith))

in_index : (x y c : Image) → OnlyInLogs x y → IsSameBut (area_of Index 0) y c → OnlyInLogs x c
in_index x y c before same b not_journal not_index = same b (not_index 0 (omega arith)) ∙ before b not_journal not_index

-- from a disk on which both logs were read to their ends
module _ (journal index : OpeningView) (a b : List Batch) (d0 : DiskState) (is_journal : journal.log.log ≡ Journal) (is_index : index.log.log ≡ Index)
    (read_journal : HasRead journal a d0) (read_index : HasRead index b d0) (ended_journal : HasEnded journal d0) (ended_index : HasEnded index d0)
    (empty_journal : IsEmptyBeyond journal.log d0) (empty_index : IsEmptyBeyond index.log d0) where
  abbrev Stand : Image → Type 0
  Stand = After d0 (BothStand journal index a b)

  pub index_apart : index.log.log ≢ Journal
  index_apart same = two_logs (sym is_index ∙ same)

  journal_apart : journal.log.log ≢ Index
  journal_apart same = two_logs (sym same ∙ is_journal)

  -- before anything is written
  pub both_stand : (c : Image) → d0.may_leave c → Stand c
  both_stand c now = record {
    from = c;
    image = now;
    steps = record {
      elsewhere = λ n x y. refl;
      journal_stands = read_stands journal a d0 read_journal ended_journal empty_journal c now;
      index_stands = read_stands index b d0 read_index ended_index empty_index c now;
    };
  }

  -- while the journal is begun
  journal_begun : a ≡ [] → IsUnbegun journal d0 → (c : Image) → LeftByOpening journal.log.log journal.log.segment_size d0 c → Stand c
  journal_begun no_batch none c (inl now) = both_stand c now
  journal_begun no_batch none c (inr after) =
      let same : IsSameBut (area_of Journal 0) after.from c = λ n apart_n. after.steps.elsewhere n (subst (λ (l : Log). n ≢ area_of l 0) (sym is_journal) apart_n) in
      record {
        from = after.from;
        image = after.image;
        steps = record {
          elsewhere = in_logs after.from c same;
          journal_stands = begun_stands journal a d0 no_batch none empty_journal c after;
          index_stands = stands_still Journal index index_apart b after.from c same (read_stands index b d0 read_index ended_index empty_index after.from after.image);
        };
      }

  pub journal_moments : (d1 : DiskState) → (journal.has_begin ≡ true → LeavesOnly d0 d1 d0.may_leave)
      → (IsUnbegun journal d0 → IsEmptyBeyond journal.log d0 → LeavesOnly d0 d1 (LeftByOpening journal.log.log journal.log.segment_size d0)) → LeavesOnly d0 d1 Stand
  journal_moments d1 taken begun = by read_journal
    where
      by : HasRead journal a d0 → LeavesOnly d0 d1 Stand
      by (inl so_far) = weaker d0 d1 d0.may_leave Stand (taken so_far.with_begin) both_stand
      by (inr none) = weaker d0 d1 (LeftByOpening journal.log.log journal.log.segment_size d0) Stand (begun none.1 empty_journal) (journal_begun none.0 none.1)

  -- and then the index log
  module _ (d1 : DiskState) (first : LeavesOnly d0 d1 Stand) (images : (c : Image) → d1.may_leave c → After d0 (IsSameBut (area_of Journal 0)) c) (reads : IsSameBut (area_of Journal 0) d0.reads d1.reads) where
    index_begun : b ≡ [] → IsUnbegun index d1 → (c : Image) → LeftByOpening index.log.log index.log.segment_size d1 c → Stand c
    index_begun no_batch none c (inl now) = at_end d0 d1 Stand first c now
    index_begun no_batch none c (inr after) =
        let before : Stand after.from = at_end d0 d1 Stand first after.from after.image in
        let same : IsSameBut (area_of Index 0) after.from c = λ n apart_n. after.steps.elsewhere n (subst (λ (l : Log). n ≢ area_of l 0) (sym is_index) apart_n) in
        record {
          from = before.from;
          image = before.image;
          steps = record {
            elsewhere = in_index before.from after.from c before.steps.elsewhere same;
            journal_stands = stands_still Index journal journal_apart a after.from c same before.steps.journal_stands;
            index_stands = begun_stands index b d1 no_batch none (empty_still Journal index index_apart d0 d1 images reads empty_index) c after;
          };
        }

    pub index_moments : (d2 : DiskState) → (index.has_begin ≡ true → LeavesOnly d1 d2 d1.may_leave)
        → (IsUnbegun index d1 → IsEmptyBeyond index.log d1 → LeavesOnly d1 d2 (LeftByOpening index.log.log index.log.segment_size d1)) → LeavesOnly d0 d2 Stand
    index_moments d2 taken begun = by (read_still Journal index index_apart d0 d1 images reads b read_index)
      where
        by : HasRead index b d1 → LeavesOnly d0 d2 Stand
        by (inl so_far) = joined d0 d1 d2 Stand d1.may_leave Stand first (taken so_far.with_begin) (λ c stand. stand) (λ c now. at_end d0 d1 Stand first c now)
        by (inr none) = joined d0 d1 d2 Stand (LeftByOpening index.log.log index.log.segment_size d1) Stand first
            (begun none.1 (empty_still Journal index index_apart d0 d1 images reads empty_index)) (λ c stand. stand) (index_begun none.0 none.1)

-- a log that was taken up is the one that was read
pub finished_log : (v : OpeningView) → (finished v).log ≡ v.log.log
finished_log v = at v.has_begin
  where
    at : (b : Bool) → (if b then v.log else begun v.log.log v.log.segment_size v.log.limit).log ≡ v.log.log
    at true = refl
    at false = refl

pub apart_in : (l log : Log) (d0 d1 : DiskState) → l ≡ log → ((c : Image) → d1.may_leave c → After d0 (IsSameBut (area_of l 0)) c) → (c : Image) → d1.may_leave c → After d0 (IsSameBut (area_of log 0)) c
apart_in l log d0 d1 same images = subst (λ (x : Log). (c : Image) → d1.may_leave c → After d0 (IsSameBut (area_of x 0)) c) same images

pub same_in : (l log : Log) (d0 d1 : DiskState) → l ≡ log → IsSameBut (area_of l 0) d0.reads d1.reads → IsSameBut (area_of log 0) d0.reads d1.reads
same_in l log d0 d1 same reads = subst (λ (x : Log). IsSameBut (area_of x 0) d0.reads d1.reads) same reads

-- the journal stands on while the index log is begun
pub journal_stands_on : (v : OpeningView) (view : GateView) (a : List Batch) (d1 d2 : DiskState) → v.log.log ≡ Journal → view ≡ finished v → StandsOn view a d1
    → ((c : Image) → d2.may_leave c → After d1 (IsSameBut (area_of Index 0)) c) → StandsOn view a d2
journal_stands_on v view a d1 d2 is_journal is stands images =
    other_stands Index view a d1 d2 (λ same. two_logs (sym same ∙ ap (λ (x : GateView). x.log) is ∙ finished_log v ∙ is_journal))
    (λ c now. let after = images c now in (after.from, after.image, λ b away. after.steps b (away 0 (omega arith))))
    stands
