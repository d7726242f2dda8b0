-- What a crash leaves at any moment of a call, by what it leaves of the log that the call appends to.
use Rattle.std.proofs.Common.{◌≡◌, ◌⊎◌, ⊎_elim, ℕ, suc, ◌+◌, Bool, true, false, nat_lt, nat_le, List, [], ◌∷◌, ◌++◌, length, map, take, cond, Some, Result, Err, MatchOption, IfErr, Vec, refl, sym, ◌∙◌, ap, subst, arith, length-append}
use Rattle.std.specs.declared.alloc.Global.{Global}
use Rattle.std.specs.List.{All, slice_get}
use Rattle.std.proofs.lemmas.List.{map-append}
use Rattle.std.proofs.lemmas.List.Elements.{All-append}
use Rattle.std.proofs.lemmas.List.Sums.{fold-append}
use Rattle.std.proofs.Math.Seq.{take-append-add}
use Rattle.gl_outside.specs.Disk.{Image, DiskState, LeavesOnly}
use Rattle.gl_outside.proofs.Moments.{started, then, at_end, weaker}
use Rattle.gl_gatelog.specs.declared.kind.Log.{Log}
use Rattle.gl_gatelog.specs.declared.kind.Log.TheVariants.{Journal, Index}
use Rattle.gl_gatelog.specs.declared.kind.LogFault.{LogFault}
use Rattle.gl_gatelog.specs.declared.kind.LogFault.TheVariants.{DiskFault, OutOfMemory}
use Rattle.gl_gatelog.specs.Batch.{Batch, size}
use Rattle.gl_gatelog.specs.Log.{LogAlone, records_of}
use Rattle.gl_gatelog.specs.Stand.{BeforeOrWith}
use Rattle.gl_gatelog.specs.View.{GateView, batch_of, refusal, has_long}
use Rattle.gl_gatelog.proofs.Apart.{OnlyIn, other_log}
use Rattle.gl_gatelog.proofs.Chain.{end_within}
use Rattle.gl_fields.specs.declared.entry.Entry.{Entry}
use Rattle.gl_fields.specs.declared.entry.Outcome.{Outcome}
use Rattle.gl_fields.specs.Bounds.{IsOutcome}
use Rattle.gl_fields.specs.Entries.{entry_bytes}
use Rattle.gl_fields.specs.Outcomes.{outcome_bytes}
use Rattle.gl_node.specs.declared.answer.Arrival.TheVariants.{Journalled, JournalFull}
use Rattle.gl_node.specs.declared.mark.Claim.{Claim}
use Rattle.gl_node.specs.declared.node.Node.{Node}
use Rattle.gl_node.specs.declared.work.Work.{Work}
use Rattle.gl_node.specs.Arrivals.{added_by}
use Rattle.gl_node.specs.Claims.{commits, finish_events, held_by, is_kept, mark_of}
use Rattle.gl_node.specs.Commits.{CommittedSome}
use Rattle.gl_node.specs.Entering.{entered}
use Rattle.gl_node.specs.Moments.{OnlyInLogs, AfterSome, LeftBy}
use Rattle.gl_node.specs.Node.{IsRunning, Keeps, NodeOn}
use Rattle.gl_node.specs.Standing.{MayFollow, StandsFor}
use Rattle.gl_node.specs.State.{State, Event, Added, CameIn, Committed, happened, state_after, outcomes, entry_batch, journal_size}
use Rattle.gl_node.proofs.Adding.{outcomes_stay, lawful_more, follows_here, few}
use Rattle.gl_node.proofs.Appending.{apart, records_with, verdict, within_limit}
use Rattle.gl_node.proofs.Entered.{is_short, two_logs, same_test}
use Rattle.gl_node.proofs.Outcomes.{fits_is, high, more_outcomes, outcomes_len, rest_if_it_fits}
use Rattle.gl_node.proofs.Ready.{ready_events}
use Rattle.gl_node.proofs.Shown.{stands_for, stands_now, shown}
use Rattle.gl_node.proofs.Steps.{short}

in_logs : (log : Log) (old new : Image) → OnlyIn log old new → OnlyInLogs old new
in_logs Journal old new only b journal index = only b journal
in_logs Index old new only b journal index = only b index

-- while a batch is appended, none of these events has happened, or the first
one_event : (s : State) (event : Event) (rest : List Event) (view : GateView) (batches : List Batch) (batch : Batch) (d0 d1 : DiskState)
    → ((x c : Image) → d0.may_leave x → OnlyIn view.log x c → LogAlone view.log view.segment_size batches c → StandsFor c s)
    → ((x c : Image) → d0.may_leave x → OnlyIn view.log x c → LogAlone view.log view.segment_size (batches ++ batch ∷ []) c → StandsFor c (happened s event))
    → LeavesOnly d0 d1 (BeforeOrWith view batches batch d0) → LeavesOnly d0 d1 (LeftBy s (event ∷ rest) d0)
one_event s event rest view batches batch d0 d1 before with_it run = weaker d0 d1 (BeforeOrWith view batches batch d0) (LeftBy s (event ∷ rest) d0) run (λ c after.
    let only : OnlyIn view.log after.from c = λ b outside. after.steps.elsewhere b (outside _ (end_within view.log view.segment_size batches)) in
    record {
      from = after.from;
      image = after.image;
      steps = ⊎_elim
          (λ is. let some : AfterSome s (event ∷ rest) after.from c = record { elsewhere = in_logs view.log after.from c only; count = 0; few = omega arith; stands = before after.from c after.image only is } in some)
          (λ is. let some : AfterSome s (event ∷ rest) after.from c = record { elsewhere = in_logs view.log after.from c only; count = 1; few = omega arith; stands = with_it after.from c after.image only is } in some)
          after.steps.before_or_with;
    })

-- a call that left the disk alone
pub unmoved : {D : Type 0} (state : D → DiskState) (old new : D) (P : Image → Type 0) → new ≡ old → LeavesOnly (state old) (state old) P → LeavesOnly (state old) (state new) P
unmoved state old new P same run = subst (λ d. LeavesOnly (state old) (state d) P) (sym same) run

module _ (node : Node) (s : State) (k : Keeps node s) (d0 : DiskState) (on : NodeOn node d0) where
  -- nothing was done yet
  pub nothing_yet : (events : List Event) → LeavesOnly d0 d0 (LeftBy s events d0)
  nothing_yet events = started d0 (LeftBy s events d0) (λ c now. record {
    from = c;
    image = now;
    steps = record { elsewhere = λ b journal index. refl; count = 0; few = omega arith; stands = shown node s k d0 on c now };
  })

  -- the log that isn't written to is as it was
  index_there : (x c : Image) → d0.may_leave x → OnlyIn node.journal.log x c → LogAlone node.index.log node.index.segment_size on.index_batches c
  index_there x c image only = other_log node.journal.log node.index.log (two_logs node.journal node.index k.journal_log.log_is k.index_log.log_is) x c only
      node.index.segment_size on.index_batches (on.index.images x image)

  journal_there : (x c : Image) → d0.may_leave x → OnlyIn node.index.log x c → LogAlone node.journal.log node.journal.segment_size on.journal_batches c
  journal_there x c image only = other_log node.index.log node.journal.log (apart node.journal.log node.index.log k.journal_log.log_is k.index_log.log_is) x c only
      node.journal.segment_size on.journal_batches (on.journal.images x image)

  pub while_added : (d1 : DiskState) (entry : Entry) → MayFollow node.entries.items entry
      → LeavesOnly d0 d1 (BeforeOrWith node.journal on.journal_batches (entry_bytes entry ∷ []) d0) → LeavesOnly d0 d1 (LeftBy s (Added entry ∷ []) d0)
  while_added d1 entry follows = one_event s (Added entry) [] node.journal on.journal_batches (entry_bytes entry ∷ []) d0 d1
      (λ x c image only is. stands_now node s k d0 on c is (index_there x c image only))
      (λ x c image only is. stands_for node s k (happened s (Added entry)) refl
      (lawful_more s.journal entry k.lawful (follows_here node s entry k follows))
      (subst (λ (os : List Outcome). All IsOutcome os) (sym same) k.bounded)
      (omega (arith, ap (λ (os : List Outcome). length os) same, k.committed, few node s entry k follows, length-append s.journal (entry ∷ [])))
      (on.journal_batches ++ (entry_bytes entry ∷ []) ∷ []) on.index_batches entries_are
      (on.outcomes ∙ ap (λ (os : List Outcome). map outcome_bytes os) (k.outcomes_are ∙ sym same))
      c is (index_there x c image only))
    where
      same : outcomes (happened s (Added entry)) ≡ outcomes s
      same = outcomes_stay s entry (few node s entry k follows)

      entries_are : records_of (on.journal_batches ++ (entry_bytes entry ∷ []) ∷ []) ≡ map entry_bytes (s.journal ++ entry ∷ [])
      entries_are = records_with on.journal_batches (entry_bytes entry ∷ []) (map entry_bytes node.entries.items) on.entries
          ∙ sym (map-append entry_bytes node.entries.items (entry ∷ []))
          ∙ ap (λ (es : List Entry). map entry_bytes (es ++ entry ∷ [])) k.entries

  pub while_committed : (d1 : DiskState) (at : ℕ) (work : Work) → slice_get node.waiting.items at ≡ Some work → work.range.first ≡ length node.outcomes.items → (rest : List Event)
      → LeavesOnly d0 d1 (BeforeOrWith node.index on.index_batches (map outcome_bytes work.outcomes) d0) → LeavesOnly d0 d1 (LeftBy s (Committed (mark_of work.range) ∷ rest) d0)
  while_committed d1 at work there begins rest = one_event s (Committed (mark_of work.range)) rest node.index on.index_batches (map outcome_bytes work.outcomes) d0 d1
      (λ x c image only is. stands_now node s k d0 on c (journal_there x c image only) is)
      (λ x c image only is. stands_for node s k (happened s (Committed (mark_of work.range))) refl k.lawful
      (subst (λ (os : List Outcome). All IsOutcome os) (sym more) (All-append IsOutcome (outcomes s) work.outcomes k.bounded work.bounded))
      (omega (
        arith,
        ap (λ (os : List Outcome). length os) more,
        length-append (outcomes s) work.outcomes,
        outcomes_len node s at work k there begins,
        begins,
        ap (λ (os : List Outcome). length os) k.outcomes_are,
        high node s at work k there begins,
        k.tiled.within,
      ))
      on.journal_batches (on.index_batches ++ map outcome_bytes work.outcomes ∷ [])
      (on.entries ∙ ap (λ (es : List Entry). map entry_bytes es) k.entries) outcomes_are
      c (journal_there x c image only) is)
    where
      more : outcomes (happened s (Committed (mark_of work.range))) ≡ outcomes s ++ work.outcomes
      more = more_outcomes node s at work k there begins

      outcomes_are : records_of (on.index_batches ++ map outcome_bytes work.outcomes ∷ []) ≡ map outcome_bytes (outcomes (happened s (Committed (mark_of work.range))))
      outcomes_are = records_with on.index_batches (map outcome_bytes work.outcomes) (map outcome_bytes node.outcomes.items) on.outcomes
          ∙ sym (map-append outcome_bytes node.outcomes.items work.outcomes)
          ∙ ap (λ (os : List Outcome). map outcome_bytes (os ++ work.outcomes)) k.outcomes_are
          ∙ ap (λ (os : List Outcome). map outcome_bytes os) (sym more)

-- one call to a log, whatever its answer
module _ {D : Type 0} (state : D → DiskState) (old new : D) (node : Node) (s : State) (k : Keeps node s) (on : NodeOn node (state old)) (result : Result ℕ LogFault) where
  pub entering : (entry : Entry) (batch : Batch) → MayFollow node.entries.items entry → batch ≡ entry_bytes entry ∷ [] → node.journal.stopped ≡ false
      → MatchOption (refusal node.journal batch) (IfErr result (λ e. (e ≡ DiskFault) ⊎ (e ≡ OutOfMemory))) (λ e. (result ≡ Err e) × (new ≡ old))
      → LeavesOnly (state old) (state new) (BeforeOrWith node.journal on.journal_batches batch (state old))
      → LeavesOnly (state old) (state new) (LeftBy s (added_by (entered s entry) entry) (state old))
  entering entry batch follows is runs cause run = ⊎_elim
      (λ full. unmoved state old new (LeftBy s (added_by (entered s entry) entry) (state old)) full.1.1 (nothing_yet node s k (state old) on (added_by (entered s entry) entry)))
      (λ fits. subst (λ (es : List Event). LeavesOnly (state old) (state new) (LeftBy s es (state old)))
      (by_test (nat_lt s.base.journal_limit (journal_size s + entry_batch entry))
      (same_test node s entry k ∙ ap (λ (b : Batch). nat_lt node.journal.limit (node.journal.bytes + size b)) (sym is) ∙ fits.0))
      (while_added node s k (state old) on (state new) entry follows
      (subst (λ (b : Batch). LeavesOnly (state old) (state new) (BeforeOrWith node.journal on.journal_batches b (state old))) is run)))
      (verdict node.journal batch _ _ runs (ap has_long is ∙ is_short node.entries.items entry follows) cause)
    where
      by_test : (b : Bool) → b ≡ false → Added entry ∷ [] ≡ added_by (cond b (JournalFull (journal_size s) s.base.journal_limit) (Journalled (length s.journal))) entry
      by_test true same = absurd (cc)
      by_test false same = refl

  pub committing : (at : ℕ) (work : Work) → slice_get node.waiting.items at ≡ Some work → work.range.first ≡ length node.outcomes.items → (records : List (Vec ℕ Global))
      → batch_of records ≡ map outcome_bytes work.outcomes → IsRunning node
      → MatchOption (refusal node.index (batch_of records)) (IfErr result (λ e. (e ≡ DiskFault) ⊎ (e ≡ OutOfMemory))) (λ e. (result ≡ Err e) × (new ≡ old))
      → LeavesOnly (state old) (state new) (BeforeOrWith node.index on.index_batches (batch_of records) (state old))
      → LeavesOnly (state old) (state new) (LeftBy s (commits s) (state old))
  committing at work there begins records is_batch running cause run = ⊎_elim
      (λ full. unmoved state old new (LeftBy s (commits s) (state old)) full.1.1 (nothing_yet node s k (state old) on (commits s)))
      (λ fits. subst (λ (es : List Event). LeavesOnly (state old) (state new) (LeftBy s es (state old)))
      (sym (rest_if_it_fits node s at work k there begins (sym (fits_is node s at work k there begins) ∙ ap (λ b. nat_le (node.index.bytes + size b) node.index.limit) (sym is_batch)
      ∙ within_limit (node.index.bytes + size (batch_of records)) node.index.limit fits.0)))
      (while_committed node s k (state old) on (state new) at work there begins (commits (happened s (Committed (mark_of work.range))))
      (subst (λ (b : Batch). LeavesOnly (state old) (state new) (BeforeOrWith node.index on.index_batches b (state old))) is_batch run)))
      (verdict node.index (batch_of records) _ _ (k.running running).1 (short node s at work k there begins records is_batch) cause)

-- one ready range after another
pub more_commits : (s : State) (node : Node) (some : CommittedSome s node) (d0 d1 d2 : DiskState) → LeavesOnly d0 d1 (LeftBy s (commits s) d0)
    → LeavesOnly d1 d2 (LeftBy (state_after s some.done) (commits (state_after s some.done)) d1) → LeavesOnly d0 d2 (LeftBy s (commits s) d0)
more_commits s node some d0 d1 d2 first second = then d0 d1 d2 (LeftBy s (commits s) d0) (LeftBy t (commits t) d1) (LeftBy s (commits s) d0) first second (λ c left. left) (λ c left.
    let was = at_end d0 d1 (LeftBy s (commits s) d0) first left.from left.image in
    record {
      from = was.from;
      image = was.image;
      steps = record {
        elsewhere = λ b journal index. left.steps.elsewhere b journal index ∙ was.steps.elsewhere b journal index;
        count = length some.done + left.steps.count;
        few = omega (arith, left.steps.few, ap (λ (es : List Event). length es) some.rest, length-append some.done (commits t));
        stands = subst (λ (u : State). StandsFor c u) (sym (behind left.steps.count)) left.steps.stands;
      };
    })
  where
    t : State
    t = state_after s some.done

    behind : (n : ℕ) → state_after s (take (length some.done + n) (commits s)) ≡ state_after t (take n (commits t))
    behind n = ap (λ (es : List Event). state_after s (take (length some.done + n) es)) some.rest
        ∙ ap (λ (es : List Event). state_after s es) (take-append-add some.done (commits t) n)
        ∙ fold-append happened s some.done (take n (commits t))

-- a range came in, and ready ranges are committed
pub came_first : (s : State) (worker : ℕ) (claim : Claim) (d0 d1 : DiskState) → held_by s worker ≡ Some claim → is_kept (happened s (CameIn claim)) claim.mark ≡ false
    → LeavesOnly d0 d1 (LeftBy (happened s (CameIn claim)) (commits (happened s (CameIn claim))) d0) → LeavesOnly d0 d1 (LeftBy s (finish_events s worker) d0)
came_first s worker claim d0 d1 holds ready run =
    subst (λ (es : List Event). LeavesOnly d0 d1 (LeftBy s es d0)) (sym (ready_events s worker claim holds ready))
    (weaker d0 d1 (LeftBy came (commits came) d0) (LeftBy s (CameIn claim ∷ commits came) d0) run (λ c left. record {
      from = left.from;
      image = left.image;
      steps = record { elsewhere = left.steps.elsewhere; count = suc left.steps.count; few = omega (arith, left.steps.few); stands = left.steps.stands };
    }))
  where
    came : State
    came = happened s (CameIn claim)
