-- What becomes of the index log, and of the store, where a batch is appended.
use Rattle.std.proofs.Common.{◌≡◌, ◌≢◌, ◌⊎◌, inl, inr, ⊎_elim, ℕ, ◌+◌, ◌<◌, ◌≤◌, Bool, true, false, cond, ltb, nat_le, List, [], ◌∷◌, ◌++◌, length, map, Some, None, Result, Ok, Err, MatchOption, IfErr, refl, sym, ◌∙◌, ap, subst, arith}
use Rattle.std.proofs.lemmas.Bool.Decides.{nat_tests}
use Rattle.std.proofs.lemmas.Grind.{flat_map-append}
use Rattle.std.proofs.lemmas.List.{append-nil, map-append}
use Rattle.gl_outside.specs.Disk.{DiskState, LeavesOnly}
use Rattle.gl_outside.proofs.Moments.{at_end}
use Rattle.gl_gatelog.specs.declared.kind.Log.{Log}
use Rattle.gl_gatelog.specs.declared.kind.Log.TheVariants.{Journal, Index}
use Rattle.gl_gatelog.specs.declared.kind.LogFault.{LogFault}
use Rattle.gl_gatelog.specs.declared.kind.LogFault.TheVariants.{LogFull, DiskFault, OutOfMemory, RecordTooLong, Stopped}
use Rattle.gl_gatelog.specs.Batch.{Batch, size}
use Rattle.gl_gatelog.specs.Log.{area_of, begin, last_segment, log_end, records_of}
use Rattle.gl_gatelog.specs.Stand.{StandsOn, IsReady, BeforeOrWith}
use Rattle.gl_gatelog.specs.View.{GateView, refusal, has_long}
use Rattle.gl_gatelog.proofs.Chain.{within}
use Rattle.gl_gatelog.proofs.Apart.{other_stands, other_area}
use Rattle.gl_fields.specs.declared.entry.Outcome.{Outcome}
use Rattle.gl_fields.specs.Outcomes.{outcome_bytes}
use Rattle.gl_node.specs.Node.{Store, StoreOn}

two_logs : Journal ≢ Index
two_logs same = cc same

pub apart : (a b : Log) → a ≡ Journal → b ≡ Index → a ≢ b
apart a b is_journal is_index same = two_logs (sym is_journal ∙ same ∙ is_index)

-- a batch is refused exactly where it would pass the limit
full_or_not : (full : Bool) (bytes limit : ℕ) (P : Type 0) (Q : LogFault → Type 0) → MatchOption (cond full (Some (LogFull bytes limit)) None) P Q
    → ((full ≡ true) × Q (LogFull bytes limit)) ⊎ ((full ≡ false) × P)
full_or_not true bytes limit P Q h = inl (refl, h)
full_or_not false bytes limit P Q h = inr (refl, h)

pub verdict : (view : GateView) (batch : Batch) (P : Type 0) (Q : LogFault → Type 0) → view.stopped ≡ false → has_long batch ≡ false → MatchOption (refusal view batch) P Q
    → ((ltb view.limit (view.bytes + size batch) ≡ true) × Q (LogFull view.bytes view.limit)) ⊎ ((ltb view.limit (view.bytes + size batch) ≡ false) × P)
verdict view batch P Q runs short cause =
    full_or_not (ltb view.limit (view.bytes + size batch)) view.bytes view.limit P Q
    (subst (λ (long : Bool). MatchOption (cond long (Some RecordTooLong) (cond (ltb view.limit (view.bytes + size batch)) (Some (LogFull view.bytes view.limit)) None)) P Q) short
    (subst (λ (stopped : Bool). MatchOption (cond stopped (Some Stopped) (cond (has_long batch) (Some RecordTooLong) (cond (ltb view.limit (view.bytes + size batch)) (Some (LogFull view.bytes view.limit)) None))) P Q) runs cause))

pub within_limit : (bytes limit : ℕ) → ltb limit bytes ≡ false → nat_le bytes limit ≡ true
within_limit bytes limit h = grind (arith, nat_tests)

module _ (view : GateView) (batch : Batch) (X : Type 0) (runs : view.stopped ≡ false) (short : has_long batch ≡ false) where
  pub fitted : (n : ℕ) (result : Result ℕ LogFault) → result ≡ Ok n
      → MatchOption (refusal view batch) (IfErr result (λ e. (e ≡ DiskFault) ⊎ (e ≡ OutOfMemory))) (λ e. (result ≡ Err e) × X) → nat_le (view.bytes + size batch) view.limit ≡ true
  fitted n result is cause = ⊎_elim
      (λ full. absurd (ok_or n result (LogFull view.bytes view.limit) is full.1.0))
      (λ fits. within_limit (view.bytes + size batch) view.limit fits.0)
      (verdict view batch _ _ runs short cause)
    where
      ok_or : (m : ℕ) (r : Result ℕ LogFault) (e : LogFault) → r ≡ Ok m → r ≡ Err e → ⊥
      ok_or m r e ok err = cc (ok, err)

  pub was_full : (bytes limit : ℕ) (result : Result ℕ LogFault) → result ≡ Err (LogFull bytes limit)
      → MatchOption (refusal view batch) (IfErr result (λ e. (e ≡ DiskFault) ⊎ (e ≡ OutOfMemory))) (λ e. (result ≡ Err e) × X)
      → (bytes ≡ view.bytes) × (limit ≡ view.limit) × (nat_le (view.bytes + size batch) view.limit ≡ false) × X
  was_full bytes limit result is cause = ⊎_elim
      (λ full. (first_is full.1.0, second_is full.1.0, past (view.bytes + size batch) view.limit full.0, full.1.1))
      (λ fits. absurd (no_fault result is fits.1))
      (verdict view batch _ _ runs short cause)
    where
      first_is : result ≡ Err (LogFull view.bytes view.limit) → bytes ≡ view.bytes
      first_is err = cc (is, err)

      second_is : result ≡ Err (LogFull view.bytes view.limit) → limit ≡ view.limit
      second_is err = cc (is, err)

      past : (a b : ℕ) → ltb b a ≡ true → nat_le a b ≡ false
      past a b h = grind (arith, nat_tests)

      no_fault : (r : Result ℕ LogFault) → r ≡ Err (LogFull bytes limit) → IfErr r (λ e. (e ≡ DiskFault) ⊎ (e ≡ OutOfMemory)) → ⊥
      no_fault r err fault = ⊎_elim (λ e. cc e) (λ e. cc e) (subst (λ (q : Result ℕ LogFault). IfErr q (λ e. (e ≡ DiskFault) ⊎ (e ≡ OutOfMemory))) err fault)

  -- and for no other cause
  pub no_other : (e : LogFault) (result : Result ℕ LogFault) → result ≡ Err e
      → MatchOption (refusal view batch) (IfErr result (λ e. (e ≡ DiskFault) ⊎ (e ≡ OutOfMemory))) (λ e. (result ≡ Err e) × X)
      → ((bytes limit : ℕ) → e ≡ LogFull bytes limit → ⊥) → (e ≡ DiskFault → ⊥) → (e ≡ OutOfMemory → ⊥) → ⊥
  no_other e result is cause not_full not_fault not_memory = ⊎_elim
      (λ full. not_full view.bytes view.limit (same_err full.1.0))
      (λ fits. ⊎_elim not_fault not_memory (subst (λ (q : Result ℕ LogFault). IfErr q (λ x. (x ≡ DiskFault) ⊎ (x ≡ OutOfMemory))) is fits.1))
      (verdict view batch _ _ runs short cause)
    where
      same_err : result ≡ Err (LogFull view.bytes view.limit) → e ≡ LogFull view.bytes view.limit
      same_err err = cc (is, err)

-- the journal may be written to as before
pub journal_ready : (journal index : GateView) (d0 d1 : DiskState) → journal.log ≡ Journal → index.log ≡ Index
    → ((b : ℕ) → b ≢ area_of index.log index.place.0 → d1.reads b ≡ d0.reads b) → IsReady journal d0 → IsReady journal d1
journal_ready journal index d0 d1 is_journal is_index elsewhere ready gated =
    subst (λ (area : List ℕ). journal.place.1 < length area) (sym (elsewhere (area_of journal.log journal.place.0)
    (other_area index.log journal.log (apart journal.log index.log is_journal is_index) journal.place.0 index.place.0))) (ready gated)

-- the records, with one batch more
pub records_with : (batches : List Batch) (batch : Batch) (records : List (List ℕ)) → records_of batches ≡ records → records_of (batches ++ batch ∷ []) ≡ records ++ batch
records_with batches batch records is =
    flat_map-append (λ (b : Batch). b) batches (batch ∷ []) ∙ ap (λ rs. records_of batches ++ rs) (append-nil batch) ∙ ap (λ rs. rs ++ batch) is

module _ (store : Store) (d0 d1 : DiskState) (is_journal : store.journal.log ≡ Journal) (is_index : store.index.log ≡ Index) (on : StoreOn store d0) where
  journal_stands : (batch : Batch) → LeavesOnly d0 d1 (BeforeOrWith store.index on.index_batches batch d0) → StandsOn store.journal on.journal_batches d1
  journal_stands batch run = other_stands store.index.log store.journal on.journal_batches d0 d1 (apart store.journal.log store.index.log is_journal is_index)
      (λ c now. let after = at_end d0 d1 _ run c now in (after.from, after.image, λ b outside. after.steps.elsewhere b (outside (log_end store.index.log store.index.segment_size on.index_batches).0 end_within))) on.journal
    where
      end_within : (log_end store.index.log store.index.segment_size on.index_batches).0 ≤ last_segment store.index.log
      end_within = within store.index.log store.index.segment_size (0, 0) (begin store.index.log store.index.segment_size ∷ on.index_batches) (omega arith)

  -- with the outcomes of a batch that was appended
  pub on_appended : (index : GateView) (batch : Batch) (more all : List Outcome) → batch ≡ map outcome_bytes more → all ≡ store.outcomes ++ more
      → LeavesOnly d0 d1 (BeforeOrWith store.index on.index_batches batch d0)
      → StandsOn index (on.index_batches ++ batch ∷ []) d1
      → StoreOn (record { journal = store.journal; index = index; entries = store.entries; outcomes = all }) d1
  on_appended index batch more all batch_is all_is run stands = record {
    journal_batches = on.journal_batches;
    index_batches = on.index_batches ++ batch ∷ [];
    journal = journal_stands batch run;
    index = stands;
    entries = on.entries;
    outcomes = records_with on.index_batches batch (map outcome_bytes store.outcomes) on.outcomes
        ∙ ap (λ rs. map outcome_bytes store.outcomes ++ rs) batch_is
        ∙ sym (map-append outcome_bytes store.outcomes more)
        ∙ ap (λ os. map outcome_bytes os) (sym all_is);
  }

  -- after a call that added nothing
  pub on_kept : (index : GateView) (batch : Batch) (all : List Outcome) → all ≡ store.outcomes
      → LeavesOnly d0 d1 (BeforeOrWith store.index on.index_batches batch d0) → StandsOn index on.index_batches d1
      → StoreOn (record { journal = store.journal; index = index; entries = store.entries; outcomes = all }) d1
  on_kept index batch all all_is run stands = record {
    journal_batches = on.journal_batches;
    index_batches = on.index_batches;
    journal = journal_stands batch run;
    index = stands;
    entries = on.entries;
    outcomes = on.outcomes ∙ ap (λ os. map outcome_bytes os) (sym all_is);
  }

-- after a call that left the disk alone
pub on_unmoved : {D : Type 0} (state : D → DiskState) (old new : D) (store : Store) → new ≡ old → StoreOn store (state old) → (index : GateView) (all : List Outcome) → index ≡ store.index → all ≡ store.outcomes
    → StoreOn (record { journal = store.journal; index = index; entries = store.entries; outcomes = all }) (state new)
on_unmoved state old new store same on index all index_is all_is =
    let values : store ≡ record { journal = store.journal; index = index; entries = store.entries; outcomes = all } =
    λ i. record { journal = store.journal; index = sym index_is i; entries = store.entries; outcomes = sym all_is i } in
    subst (λ (st : Store). StoreOn st (state new)) values (subst (λ d. StoreOn store (state d)) (sym same) on)
