-- What one call to the index log makes of what a node keeps.
use Rattle.std.proofs.Common.{◌≡◌, ◌⊎◌, ℕ, ◌+◌, ◌<◌, ◌≤◌, ◌==◌, true, false, List, ◌++◌, length, get_or, map, nat_le, Vec, vec_len, vec_capacity, Some, Result, Ok, Err, MatchOption, IfErr, OnOk, sym, ◌∙◌, ap, arith}
use Rattle.std.specs.Result.{is_err}
use Rattle.std.specs.declared.alloc.Global.{Global}
use Rattle.std.specs.List.{remove, slice_get, position}
use Rattle.std.proofs.lemmas.Bool.Decides.{nat_tests}
use Rattle.std.proofs.lemmas.List.{length-map}
use Rattle.std.proofs.lemmas.Option.{slice_get-get_or}
use Rattle.gl_base.proofs.Counting.{find_at_some}
use Rattle.gl_gatelog.specs.declared.kind.LogFault.{LogFault}
use Rattle.gl_gatelog.specs.declared.kind.LogFault.TheVariants.{LogFull, DiskFault, OutOfMemory}
use Rattle.gl_gatelog.specs.Batch.{Batch, size}
use Rattle.gl_gatelog.specs.View.{GateView, batch_of, refusal, has_long, appended}
use Rattle.gl_fields.specs.declared.entry.Outcome.{Outcome}
use Rattle.gl_fields.specs.Outcomes.{outcome_bytes}
use Rattle.gl_node.specs.declared.node.Node.{Node}
use Rattle.gl_node.specs.declared.work.Work.{Work}
use Rattle.gl_node.specs.State.{State}
use Rattle.gl_node.specs.Claims.{mark_of}
use Rattle.gl_node.specs.Commits.{WasCommitted, DidNotFit}
use Rattle.gl_node.specs.Node.{IsRunning, Keeps}
use Rattle.gl_node.proofs.Appending.{fitted, was_full, no_other}
use Rattle.gl_node.proofs.Outcomes.{sized, outcomes_len, is_next, rest_if_it_fits, rest_if_not, fits_is, keeps_committed, keeps_still}
use Rattle.gl_node.proofs.Sizes.{none_long}

pub on_ok : {T E : Type 0} (r : Result T E) (P : Type 0) → is_err r ≡ false → OnOk r P → P
on_ok (Ok x) P ok p = p
on_ok (Err e) P ok p = absurd (cc ok)

-- the work that is next, by its index
pub work_there : (node : Node) (at : ℕ) (work : Work) → position (λ (w : Work). w.range.first == vec_len node.outcomes) node.waiting.items ≡ Some at → work ≡ get_or node.waiting.items at work
    → slice_get node.waiting.items at ≡ Some work
work_there node at work next is =
    slice_get-get_or node.waiting.items at work (find_at_some (λ (w : Work). w.range.first == vec_len node.outcomes) node.waiting.items at work next).0 ∙ ap (λ w. Some w) (sym is)

pub work_begins : (node : Node) (at : ℕ) (work : Work) → position (λ (w : Work). w.range.first == vec_len node.outcomes) node.waiting.items ≡ Some at → work ≡ get_or node.waiting.items at work
    → work.range.first ≡ length node.outcomes.items
work_begins node at work next is =
    equal work.range.first (vec_len node.outcomes) (length node.outcomes.items) (ap (λ (w : Work). w.range.first == vec_len node.outcomes) is ∙ (find_at_some (λ (w : Work). w.range.first == vec_len node.outcomes) node.waiting.items at work next).1)
    (omega (arith, node.outcomes.ok.0))
  where
    equal : (a b n : ℕ) → (a == b) ≡ true → b ≡ n → a ≡ n
    equal a b n h e = grind (arith, nat_tests)

pub count_records : (records : List (Vec ℕ Global)) (outcomes : List Outcome) → batch_of records ≡ map outcome_bytes outcomes → length records ≡ length outcomes
count_records records outcomes is = sym (length-map records (λ (v : Vec ℕ Global). v.items)) ∙ ap (λ (b : Batch). length b) is ∙ length-map outcomes outcome_bytes

module _ (node : Node) (s : State) (at : ℕ) (work : Work) (k : Keeps node s) (there : slice_get node.waiting.items at ≡ Some work) (begins : work.range.first ≡ length node.outcomes.items)
    (records : List (Vec ℕ Global)) (is_batch : batch_of records ≡ map outcome_bytes work.outcomes) where
  pub some_records : 0 < length records
  some_records = omega (arith, count_records records work.outcomes is_batch, outcomes_len node s at work k there begins, (sized node s at work k there begins).0)

  pub few_records : length records ≤ 256
  few_records = omega (arith, count_records records work.outcomes is_batch, outcomes_len node s at work k there begins, (sized node s at work k there begins).1)

  pub short : has_long (batch_of records) ≡ false
  short = ap (λ b. has_long b) is_batch ∙ none_long work.outcomes work.bounded

  module _ (running : IsRunning node) (X : Type 0) (result : Result ℕ LogFault)
      (cause : MatchOption (refusal node.index (batch_of records)) (IfErr result (λ e. (e ≡ DiskFault) ⊎ (e ≡ OutOfMemory))) (λ e. (result ≡ Err e) × X)) where
    pub step_committed : (n : ℕ) → result ≡ Ok n → (all : Vec Outcome Global) (waiting : Vec Work Global) (index : GateView) → all.items ≡ node.outcomes.items ++ work.outcomes
        → waiting.items ≡ remove node.waiting.items at → vec_capacity waiting ≡ vec_capacity node.waiting → index ≡ appended node.index (batch_of records)
        → WasCommitted s (record node { outcomes = all; waiting = waiting; index = index })
    step_committed n is all waiting index all_is waiting_is room_is index_is = record {
      mark = mark_of work.range;
      rest = rest_if_it_fits node s at work k there begins (sym (fits_is node s at work k there begins) ∙ ap (λ b. nat_le (node.index.bytes + size b) node.index.limit) (sym is_batch)
          ∙ fitted node.index (batch_of records) X (k.running running).1 short n result is cause);
      keeps = keeps_committed node s at work k there begins all waiting all_is waiting_is room_is index (index_is ∙ ap (λ b. appended node.index b) is_batch);
    }

    pub step_full : (bytes limit : ℕ) → result ≡ Err (LogFull bytes limit) → (all : Vec Outcome Global) (index : GateView) → all.items ≡ node.outcomes.items → index ≡ node.index
        → DidNotFit s (record node { outcomes = all; index = index }) bytes limit
    step_full bytes limit is all index all_is index_is =
        let full = was_full node.index (batch_of records) X (k.running running).1 short bytes limit result is cause in
        record {
          mark = mark_of work.range;
          ready = is_next node s at work k there begins;
          rest = rest_if_not node s at work k there begins (sym (fits_is node s at work k there begins) ∙ ap (λ b. nat_le (node.index.bytes + size b) node.index.limit) (sym is_batch) ∙ full.2);
          bytes_are = full.0 ∙ k.index_log.bytes_are;
          limit_is = full.1 ∙ k.index_log.limit_is;
          keeps = keeps_still node s all index k all_is index_is;
        }

    -- where the log is full the disk was left alone
    pub full_unmoved : (bytes limit : ℕ) → result ≡ Err (LogFull bytes limit) → X
    full_unmoved bytes limit is = (was_full node.index (batch_of records) X (k.running running).1 short bytes limit result is cause).3

    pub none_other : (e : LogFault) → result ≡ Err e → ((bytes limit : ℕ) → e ≡ LogFull bytes limit → ⊥) → (e ≡ DiskFault → ⊥) → (e ≡ OutOfMemory → ⊥) → ⊥
    none_other e is = no_other node.index (batch_of records) X (k.running running).1 short e result is cause
