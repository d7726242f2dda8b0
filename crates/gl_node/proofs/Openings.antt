-- The exits of opening: what was read, and what a crash leaves meanwhile.
use Rattle.std.proofs.Common.{◌≡◌, ◌≢◌, inl, inr, ◌⊎◌, ℕ, ◌≤◌, List, [], length, map, Result, Ok, Err, IsErrOf, MatchResult, refl, sym, ◌∙◌, ap, subst, arith}
use Rattle.std.specs.List.{All}
use Rattle.std.specs.Result.{IsErr, IsErrAnd}
use Rattle.std.proofs.lemmas.List.{length-map}
use Rattle.gl_outside.specs.Disk.{Image, DiskState, After, IsUnchanged, LeavesOnly}
use Rattle.gl_outside.proofs.Moments.{at_end, started, then as joined, weaker}
use Rattle.gl_gatelog.specs.declared.kind.Log.{Log}
use Rattle.gl_gatelog.specs.declared.kind.Log.TheVariants.{Journal, Index}
use Rattle.gl_gatelog.specs.Batch.{Batch}
use Rattle.gl_gatelog.specs.Log.{area_of, records_of}
use Rattle.gl_gatelog.specs.Progress.{OpeningView, HasRead, HasEnded, IsEmptyBeyond}
use Rattle.gl_gatelog.specs.Stand.{IsSameBut}
use Rattle.gl_fields.specs.declared.entry.Entry.{Entry}
use Rattle.gl_fields.specs.declared.entry.Outcome.{Outcome}
use Rattle.gl_fields.specs.Entries.{entry_bytes}
use Rattle.gl_fields.specs.Outcomes.{outcome_bytes}
use Rattle.gl_fields.specs.Bounds.{IsOutcome}
use Rattle.gl_node.specs.declared.node.Options.{Options}
use Rattle.gl_node.specs.declared.fault.OpenFault.{OpenFault}
use Rattle.gl_node.specs.declared.fault.OpenFault.TheVariants.{Damaged, DiskFault, OutOfMemory}
use Rattle.gl_node.specs.Damage.{AreEntries, AreOutcomes, IsDamaged, UnlawfulAt}
use Rattle.gl_node.specs.Moments.{LeftSince}
use Rattle.gl_node.specs.Opening.{BothStand, HasAll, IsNotOpened, IsOf}
use Rattle.gl_node.specs.Standing.{IsLawful, IsStore, Shows, base_of, StandsFor}
use Rattle.gl_node.specs.State.{State, opened}
use Rattle.gl_node.proofs.Damages.{damaged_once, shown_or_damaged}
use Rattle.gl_node.proofs.Reopened.{BothFound, LogFound, log_found, shows_found, journal_beyond, index_beyond, stands_shown}
use Rattle.gl_node.proofs.TakenUp.{ended_still, read_still}

-- what was read of a log stays read on a disk that is unchanged; `other` is any other log
module _ (other : Log) (v : OpeningView) (differs : v.log.log ≢ other) (d0 d1 : DiskState) (same : IsUnchanged d0 d1) where
  images : (c : Image) → d1.may_leave c → After d0 (IsSameBut (area_of other 0)) c
  images c now = record { from = c; image = same.images c now; steps = λ n apart. refl }

  reads : IsSameBut (area_of other 0) d0.reads d1.reads
  reads n apart = ap (λ (image : Image). image n) same.reads

  read_on : (b : List Batch) → HasRead v b d0 → HasRead v b d1
  read_on = read_still other v differs d0 d1 images reads

  ended_on : HasEnded v d0 → HasEnded v d1
  ended_on = ended_still other v differs d0 d1 images reads

pub is_not_index : (v : OpeningView) → v.log.log ≡ Journal → v.log.log ≢ Index
is_not_index v is same = cc (sym is ∙ same)

-- both logs were read to their ends on this disk
pub record BothRead (options : Options) (v w : OpeningView) (entries : List Entry) (found : List Outcome) (d : DiskState) : Type 0 where
  pub journal : IsOf Journal options.segment options.journal_limit (length entries) v
  pub index : IsOf Index options.segment options.index_limit (length found) w
  pub journal_all : HasAll v (map entry_bytes entries) d
  pub index_all : HasAll w (map outcome_bytes found) d
  pub lawful : IsLawful entries
  pub bounded : All IsOutcome found
  pub each : length found ≤ length entries

all_on : (v : OpeningView) (records : List (List ℕ)) (d0 d1 : DiskState) → v.log.log ≡ Journal → IsUnchanged d0 d1 → HasAll v records d0 → HasAll v records d1
all_on v records d0 d1 is same all = record {
  batches = all.batches;
  read = read_on Index v (is_not_index v is) d0 d1 same all.batches all.read;
  ended = ended_on Index v (is_not_index v is) d0 d1 same all.ended;
  records_are = all.records_are;
}

pub both_read : (options : Options) (v w : OpeningView) (entries : List Entry) (found : List Outcome) (d1 d2 : DiskState)
    → IsOf Journal options.segment options.journal_limit (length entries) v → IsOf Index options.segment options.index_limit (length found) w
    → HasAll v (map entry_bytes entries) d1 → IsUnchanged d1 d2 → HasAll w (map outcome_bytes found) d2
    → IsLawful entries → All IsOutcome found → length found ≤ length entries → BothRead options v w entries found d2
both_read options v w entries found d1 d2 is_v is_w all_v same all_w lawful bounded each = record {
  journal = is_v;
  index = is_w;
  journal_all = all_on v (map entry_bytes entries) d1 d2 is_v.log_is same all_v;
  index_all = all_w;
  lawful = lawful;
  bounded = bounded;
  each = each;
}

module _ (options : Options) (v w : OpeningView) (entries : List Entry) (found : List Outcome) (d0 d2 : DiskState) (same : IsUnchanged d0 d2) (r : BothRead options v w entries found d2) where
  -- what the disk showed at first
  pub both_found : BothFound options v w entries found d0.reads
  both_found = record {
    a = r.journal_all.batches;
    b = r.index_all.batches;
    journal = subst (λ (image : Image). LogFound Journal options.segment options.journal_limit (length entries) v r.journal_all.batches image) same.reads
        (log_found Journal options.segment options.journal_limit (length entries) v r.journal r.journal_all.batches d2 r.journal_all.ended r.journal_all.read);
    index = subst (λ (image : Image). LogFound Index options.segment options.index_limit (length found) w r.index_all.batches image) same.reads
        (log_found Index options.segment options.index_limit (length found) w r.index r.index_all.batches d2 r.index_all.ended r.index_all.read);
    entries_are = r.journal_all.records_are;
    found_are = r.index_all.records_are;
    lawful = r.lawful;
    bounded = r.bounded;
    each = r.each;
  }

  pub shows_read : Shows d0.reads entries found
  shows_read = shows_found options v w entries found d0.reads both_found

  -- a store that was read isn't damaged
  pub not_damaged : (log : Log) (area at : ℕ) → IsDamaged d0.reads log area at → ⊥
  not_damaged = shown_or_damaged d0.reads entries found shows_read

  module _ (journal : List Entry) (outs : List Outcome) (store : IsStore d0 journal outs) where
    pub first_beyond : IsEmptyBeyond v.log d2
    first_beyond = journal_beyond options v w entries found d0.reads both_found journal outs store.shows d2 (λ c now. store.journal_alone c (same.images c now))

    pub second_beyond : IsEmptyBeyond w.log d2
    second_beyond = index_beyond options v w entries found d0.reads both_found journal outs store.shows d2 (λ c now. store.index_alone c (same.images c now))

    -- while both logs are taken up
    left_by : (c : Image) → After d2 (BothStand v w r.journal_all.batches r.index_all.batches) c → LeftSince (opened (base_of options d0.reads journal outs store.shows)) [] d0 c
    unfolding both_found
    left_by c after = inr (record {
      from = after.from;
      image = same.images after.from after.image;
      steps = record {
        elsewhere = after.steps.elsewhere;
        count = 0;
        few = omega arith;
        stands = stands_shown options v w entries found d0.reads both_found journal outs store.shows r.journal.log_is r.index.log_is after.from c after.steps;
      };
    })

    pub taken_exit : (d3 : DiskState) → LeavesOnly d2 d3 (After d2 (BothStand v w r.journal_all.batches r.index_all.batches))
        → (c : Image) → d3.may_leave c → StandsFor c (opened (base_of options d0.reads journal outs store.shows))
    unfolding both_found
    taken_exit d3 run c now =
        let after = at_end d2 d3 (After d2 (BothStand v w r.journal_all.batches r.index_all.batches)) run c now in
        stands_shown options v w entries found d0.reads both_found journal outs store.shows r.journal.log_is r.index.log_is after.from c after.steps

    pub taken_moments : (d3 : DiskState) → LeavesOnly d0 d2 d0.may_leave → LeavesOnly d2 d3 (After d2 (BothStand v w r.journal_all.batches r.index_all.batches))
        → LeavesOnly d0 d3 (LeftSince (opened (base_of options d0.reads journal outs store.shows)) [] d0)
    taken_moments d3 first second = joined d0 d2 d3 d0.may_leave (After d2 (BothStand v w r.journal_all.batches r.index_all.batches))
        (LeftSince (opened (base_of options d0.reads journal outs store.shows)) [] d0) first second (λ c now. inl now) left_by

-- while the logs are only read
pub read_moments : (s : State) (d0 d1 : DiskState) → LeavesOnly d0 d1 d0.may_leave → LeavesOnly d0 d1 (LeftSince s [] d0)
read_moments s d0 d1 run = weaker d0 d1 d0.may_leave (LeftSince s [] d0) run (λ c now. inl now)

pub nothing_yet : (s : State) (d0 : DiskState) → LeavesOnly d0 d0 (LeftSince s [] d0)
nothing_yet s d0 = started d0 (LeftSince s [] d0) (λ c now. inl now)

-- a damaged index log behind a journal that was read
pub index_damaged : (v : OpeningView) (entries : List Entry) (d0 d1 : DiskState) → HasAll v (map entry_bytes entries) d1 → (options : Options) → IsOf Journal options.segment options.journal_limit (length entries) v
    → IsLawful entries → IsUnchanged d0 d1 → (count : ℕ) → count ≡ length entries → (log : Log) (area at : ℕ) → (log ≡ Index) × UnlawfulAt Index d1.reads (AreOutcomes count) area at → IsDamaged d0.reads log area at
index_damaged v entries d0 d1 all options is lawful same count counted log area at found =
    let journal : LogFound Journal options.segment options.journal_limit (length entries) v all.batches d1.reads =
    log_found Journal options.segment options.journal_limit (length entries) v is all.batches d1 all.ended all.read in
    let count_is : count ≡ length (records_of all.batches) = omega (arith, counted, length-map entries entry_bytes, ap (λ (rs : List (List ℕ)). length rs) all.records_are) in
    subst (λ (image : Image). IsDamaged image log area at) same.reads
    (subst (λ (l : Log). IsDamaged d1.reads l area at) (sym found.0) (
      journal.segment,
      all.batches,
      journal.shows,
      (entries, all.records_are, lawful),
      subst (λ (n : ℕ). UnlawfulAt Index d1.reads (AreOutcomes n) area at) count_is found.1,
    ))

pub journal_damaged : (image : Image) (log : Log) (area at : ℕ) → (log ≡ Journal) × UnlawfulAt Journal image AreEntries area at → IsDamaged image log area at
journal_damaged image log area at found = subst (λ (l : Log). IsDamaged image l area at) (sym found.0) found.1

-- a damaged store is told as such, or not opened for another reason
abbrev pub Refuses : Log → ℕ → ℕ → OpenFault → Type 0
Refuses log area at e = (e ≡ Damaged log area at) ⊎ (e ≡ DiskFault) ⊎ (e ≡ OutOfMemory)

pub refuses : (image : Image) (log : Log) (area at : ℕ) → IsDamaged image log area at → (e : OpenFault) → ((log2 : Log) (area2 at2 : ℕ) → e ≡ Damaged log2 area2 at2 → IsDamaged image log2 area2 at2) → Refuses log area at e
refuses image log area at damaged (Damaged log2 area2 at2) told =
    let same = damaged_once image log log2 area at area2 at2 damaged (told log2 area2 at2 refl) in
    inl (cc (same.0, same.1, same.2))
refuses image log area at damaged DiskFault told = inr (inl refl)
refuses image log area at damaged OutOfMemory told = inr (inr refl)

pub other_fault : (log : Log) (area at : ℕ) (e : OpenFault) → IsNotOpened e → Refuses log area at e
other_fault log area at e (inl is) = inr (inl is)
other_fault log area at e (inr is) = inr (inr is)

-- an answer that hands the fault of a call on
pub refused_as : {T : Type 0} (r : Result T OpenFault) (e : OpenFault) (log : Log) (area at : ℕ) → IsErr r × IsErrAnd r (λ x. x ≡ e) → Refuses log area at e → MatchResult r (λ _. ⊥) (Refuses log area at)
refused_as (Ok v) e log area at told refuses_e = cc told.0
refused_as (Err x) e log area at told refuses_e = subst (λ (y : OpenFault). Refuses log area at y) (sym told.1) refuses_e

pub told_is : {T : Type 0} (r : Result T OpenFault) (e : OpenFault) (log : Log) (area at : ℕ) → IsErr r × IsErrAnd r (λ x. x ≡ e) → IsErrOf r (Damaged log area at) → e ≡ Damaged log area at
told_is (Ok v) e log area at told is = cc told.0
told_is (Err x) e log area at told is = sym told.1 ∙ cc is
