use Rattle.std.proofs.Common.{◌≡◌, ℕ, ◌+◌, ◌≤◌, List, ◌++◌, length, map, Vec, vec_len, vec_capacity, Some, Err, refl, sym, ◌∙◌, ap, subst, arith}
use Rattle.std.specs.declared.alloc.Global.{Global}
use Rattle.gl_gatelog.specs.declared.kind.LogFault.{LogFault}
use Rattle.gl_gatelog.specs.View.{GateView, batch_of, refused}
use Rattle.gl_fields.specs.declared.entry.Outcome.{Outcome}
use Rattle.gl_fields.specs.Outcomes.{outcome_bytes}
use Rattle.gl_node.specs.declared.work.Work.{Work}
use Rattle.gl_node.specs.Claims.{commits}
use Rattle.gl_node.specs.Node.{store_of}
use Rattle.gl_node.proofs.Appending.{journal_ready, on_appended, on_kept, on_unmoved}
use Rattle.gl_node.proofs.Steps.{on_ok, work_there, work_begins, count_records, some_records, few_records, step_committed, step_full, full_unmoved, none_other}
use Rattle.gl_node.proofs.Moments.{nothing_yet, committing}
use Rattle.gl_node.proofs.node.Node.commit_one.Goals as goal

pub append-requires-clause-some : goal.append-requires-clause-some
append-requires-clause-some g c =
    some_records c.args.self.now c.requires.keeps.0 c.args.at c.index.result.now c.requires.keeps.1
    (work_there c.args.self.now c.args.at c.index.result.now c.requires.next c.index.ensures) (work_begins c.args.self.now c.args.at c.index.result.now c.requires.next c.index.ensures)
    c.deref.result.now (ap (λ (rs : List (Vec ℕ Global)). batch_of rs) c.deref.ensures.value ∙ c.in-Ok.ensures ∙ ap (λ (os : List Outcome). map outcome_bytes os) c.as_slice.ensures)

pub append-requires-clause-few : goal.append-requires-clause-few
append-requires-clause-few g c =
    few_records c.args.self.now c.requires.keeps.0 c.args.at c.index.result.now c.requires.keeps.1
    (work_there c.args.self.now c.args.at c.index.result.now c.requires.next c.index.ensures) (work_begins c.args.self.now c.args.at c.index.result.now c.requires.next c.index.ensures)
    c.deref.result.now (ap (λ (rs : List (Vec ℕ Global)). batch_of rs) c.deref.ensures.value ∙ c.in-Ok.ensures ∙ ap (λ (os : List Outcome). map outcome_bytes os) c.as_slice.ensures)

pub settle-requires-clause-room : goal.settle-requires-clause-room
settle-requires-clause-room g c = λ work same.
    let there = work_there c.args.self.now c.args.at c.index.result.now c.requires.next c.index.ensures in
    let same_work : work ≡ c.index.result.now = cc (same, there) in
    let roomy = on_ok c.reserve.result (vec_len c.reserve.new.self + c.len.result ≤ vec_capacity c.reserve.new.self) (sym c.is_err.ensures.value ∙ c.if-is_err.false) c.reserve.ensures.ok in
    let count = count_records c.in-Ok.records.items c.index.result.now.outcomes (c.in-Ok.ensures ∙ ap (λ (os : List Outcome). map outcome_bytes os) c.as_slice.ensures) in
    subst (λ (w : Work). vec_len c.reserve.new.self + length w.outcomes ≤ vec_capacity c.reserve.new.self) (sym same_work)
    (omega (arith, roomy, count, c.len.ensures, c.in-Ok.records.ok.0))

pub returns-in-Ok-append-clause-step : goal.returns-in-Ok-append-clause-step
returns-in-Ok-append-clause-step g c = λ s k.
    let there = work_there c.args.self.now c.args.at c.index.result.now c.requires.next c.index.ensures in
    let begins = work_begins c.args.self.now c.args.at c.index.result.now c.requires.next c.index.ensures in
    let batch = ap (λ (rs : List (Vec ℕ Global)). batch_of rs) c.deref.ensures.value ∙ c.in-Ok.ensures ∙ ap (λ (os : List Outcome). map outcome_bytes os) c.as_slice.ensures in
    step_committed c.args.self.now s c.args.at c.index.result.now k there begins c.deref.result.now batch c.requires.running _ c.append.result c.append.ensures.cause
    c.in-Ok-append.field-0 c.in-Ok-append.is c.settle.new.outcomes c.settle.new.waiting c.append.new.self
    (c.settle.ensures.outcomes c.index.result.now there ∙ ap (λ (os : List Outcome). os ++ c.index.result.now.outcomes) c.reserve.ensures.items)
    c.settle.ensures.waiting c.settle.ensures.capacity c.in-Ok-append.ensures.value.1

pub returns-in-Ok-append-clause-ready : goal.returns-in-Ok-append-clause-ready
returns-in-Ok-append-clause-ready g c = λ tells runs.
    let k = c.requires.keeps.1 in (
      journal_ready c.args.self.now.journal c.args.self.now.index (g.D.Disk.state c.args.disk.now) (g.D.Disk.state c.append.new.disk) k.journal_log.log_is k.index_log.log_is (c.append.ensures.elsewhere tells) (c.requires.ready tells).0,
      c.append.ensures.ready tells (ap (λ (v : GateView). v.stopped) c.in-Ok-append.ensures.value.1 ∙ (k.running c.requires.running).1),
    )

pub returns-in-Ok-append-clause-stands : goal.returns-in-Ok-append-clause-stands
returns-in-Ok-append-clause-stands g c = λ tells runs on.
    let k = c.requires.keeps.1 in
    let there = work_there c.args.self.now c.args.at c.index.result.now c.requires.next c.index.ensures in
    let batch = ap (λ (rs : List (Vec ℕ Global)). batch_of rs) c.deref.ensures.value ∙ c.in-Ok.ensures ∙ ap (λ (os : List Outcome). map outcome_bytes os) c.as_slice.ensures in
    on_appended (store_of c.args.self.now) (g.D.Disk.state c.args.disk.now) (g.D.Disk.state c.append.new.disk) k.journal_log.log_is k.index_log.log_is on
    c.append.new.self (batch_of c.deref.result.now) c.index.result.now.outcomes c.settle.new.outcomes.items batch
    (c.settle.ensures.outcomes c.index.result.now there ∙ ap (λ (os : List Outcome). os ++ c.index.result.now.outcomes) c.reserve.ensures.items)
    (c.append.ensures.any_moment tells on.index_batches on.index) (c.in-Ok-append.ensures.added tells on.index_batches on.index)

pub returns-in-Err-LogFull-clause-step : goal.returns-in-Err-LogFull-clause-step
returns-in-Err-LogFull-clause-step g c = λ s k.
    let there = work_there c.args.self.now c.args.at c.index.result.now c.requires.next c.index.ensures in
    let begins = work_begins c.args.self.now c.args.at c.index.result.now c.requires.next c.index.ensures in
    let batch = ap (λ (rs : List (Vec ℕ Global)). batch_of rs) c.deref.ensures.value ∙ c.in-Ok.ensures ∙ ap (λ (os : List Outcome). map outcome_bytes os) c.as_slice.ensures in
    step_full c.args.self.now s c.args.at c.index.result.now k there begins c.deref.result.now batch c.requires.running _ c.append.result c.append.ensures.cause
    c.in-Err-LogFull.bytes c.in-Err-LogFull.limit (c.in-Err-LogFull.is ∙ ap (λ (e : LogFault). Err e) c.in-Err-LogFull.field-0-is)
    c.reserve.new.self c.append.new.self c.reserve.ensures.items (c.in-Err-LogFull.ensures.value ∙ ap (λ (e : LogFault). refused c.args.self.now.index e) c.in-Err-LogFull.field-0-is)

pub returns-in-Err-LogFull-clause-ready : goal.returns-in-Err-LogFull-clause-ready
returns-in-Err-LogFull-clause-ready g c = λ tells runs.
    let k = c.requires.keeps.1 in (
      journal_ready c.args.self.now.journal c.args.self.now.index (g.D.Disk.state c.args.disk.now) (g.D.Disk.state c.append.new.disk) k.journal_log.log_is k.index_log.log_is (c.append.ensures.elsewhere tells) (c.requires.ready tells).0,
      c.append.ensures.ready tells (ap (λ (v : GateView). v.stopped) (c.in-Err-LogFull.ensures.value ∙ ap (λ (e : LogFault). refused c.args.self.now.index e) c.in-Err-LogFull.field-0-is) ∙ (k.running c.requires.running).1),
    )

pub returns-in-Err-LogFull-clause-stands : goal.returns-in-Err-LogFull-clause-stands
returns-in-Err-LogFull-clause-stands g c = λ tells runs on.
    let there = work_there c.args.self.now c.args.at c.index.result.now c.requires.next c.index.ensures in
    let begins = work_begins c.args.self.now c.args.at c.index.result.now c.requires.next c.index.ensures in
    let batch = ap (λ (rs : List (Vec ℕ Global)). batch_of rs) c.deref.ensures.value ∙ c.in-Ok.ensures ∙ ap (λ (os : List Outcome). map outcome_bytes os) c.as_slice.ensures in
    let same = full_unmoved c.args.self.now c.requires.keeps.0 c.args.at c.index.result.now c.requires.keeps.1 there begins c.deref.result.now batch c.requires.running _ c.append.result c.append.ensures.cause
    c.in-Err-LogFull.bytes c.in-Err-LogFull.limit (c.in-Err-LogFull.is ∙ ap (λ (e : LogFault). Err e) c.in-Err-LogFull.field-0-is) in
    on_unmoved g.D.Disk.state c.args.disk.now c.append.new.disk (store_of c.args.self.now) same on c.append.new.self c.reserve.new.self.items
    (c.in-Err-LogFull.ensures.value ∙ ap (λ (e : LogFault). refused c.args.self.now.index e) c.in-Err-LogFull.field-0-is) c.reserve.ensures.items

pub returns-in-Err-OutOfMemory-clause-stands : goal.returns-in-Err-OutOfMemory-clause-stands
returns-in-Err-OutOfMemory-clause-stands g c = λ tells runs on.
    let k = c.requires.keeps.1 in
    on_kept (store_of c.args.self.now) (g.D.Disk.state c.args.disk.now) (g.D.Disk.state c.append.new.disk) k.journal_log.log_is k.index_log.log_is on
    c.append.new.self (batch_of c.deref.result.now) c.reserve.new.self.items c.reserve.ensures.items
    (c.append.ensures.any_moment tells on.index_batches on.index)
    (c.append.ensures.memory tells (c.in-Err-OutOfMemory.is ∙ ap (λ (e : LogFault). Err e) c.in-Err-OutOfMemory.field-0-is) on.index_batches on.index)

pub returns-in-Err-DiskFault-clause-faults : goal.returns-in-Err-DiskFault-clause-faults
returns-in-Err-DiskFault-clause-faults g c = record {
  later = c.append.ensures.faults.later;
  rose = λ f h.
      let same : c.faults-faults.result ≡ f = cc h in
      (c.append.ensures.faults.rose (c.in-Err-DiskFault.is ∙ ap (λ (e : LogFault). Err e) c.in-Err-DiskFault.field-0-is), sym same ∙ c.faults-faults.ensures, ap (λ (n : ℕ). Some n) same);
  steady = λ none. absurd (none c.faults-faults.result refl);
  running = λ runs f h. cc h;
}

pub unreachable-requires : goal.unreachable-requires
unreachable-requires g c =
    let k = c.requires.keeps.1 in
    let there = work_there c.args.self.now c.args.at c.index.result.now c.requires.next c.index.ensures in
    let begins = work_begins c.args.self.now c.args.at c.index.result.now c.requires.next c.index.ensures in
    let batch = ap (λ (rs : List (Vec ℕ Global)). batch_of rs) c.deref.ensures.value ∙ c.in-Ok.ensures ∙ ap (λ (os : List Outcome). map outcome_bytes os) c.as_slice.ensures in
    none_other c.args.self.now c.requires.keeps.0 c.args.at c.index.result.now k there begins c.deref.result.now batch c.requires.running _ c.append.result c.append.ensures.cause
    c.in-Err-Damaged.field-0 c.in-Err-Damaged.is (λ b l h. cc (h, c.in-Err-Damaged.field-0-is)) (λ h. cc (h, c.in-Err-Damaged.field-0-is)) (λ h. cc (h, c.in-Err-Damaged.field-0-is))

pub unreachable-requires-in-Err-RecordTooLong : goal.unreachable-requires-in-Err-RecordTooLong
unreachable-requires-in-Err-RecordTooLong g c =
    let k = c.requires.keeps.1 in
    let there = work_there c.args.self.now c.args.at c.index.result.now c.requires.next c.index.ensures in
    let begins = work_begins c.args.self.now c.args.at c.index.result.now c.requires.next c.index.ensures in
    let batch = ap (λ (rs : List (Vec ℕ Global)). batch_of rs) c.deref.ensures.value ∙ c.in-Ok.ensures ∙ ap (λ (os : List Outcome). map outcome_bytes os) c.as_slice.ensures in
    none_other c.args.self.now c.requires.keeps.0 c.args.at c.index.result.now k there begins c.deref.result.now batch c.requires.running _ c.append.result c.append.ensures.cause
    c.in-Err-RecordTooLong.field-0 c.in-Err-RecordTooLong.is (λ b l h. cc (h, c.in-Err-RecordTooLong.field-0-is)) (λ h. cc (h, c.in-Err-RecordTooLong.field-0-is)) (λ h. cc (h, c.in-Err-RecordTooLong.field-0-is))

pub unreachable-requires-in-Err-Stopped : goal.unreachable-requires-in-Err-Stopped
unreachable-requires-in-Err-Stopped g c =
    let k = c.requires.keeps.1 in
    let there = work_there c.args.self.now c.args.at c.index.result.now c.requires.next c.index.ensures in
    let begins = work_begins c.args.self.now c.args.at c.index.result.now c.requires.next c.index.ensures in
    let batch = ap (λ (rs : List (Vec ℕ Global)). batch_of rs) c.deref.ensures.value ∙ c.in-Ok.ensures ∙ ap (λ (os : List Outcome). map outcome_bytes os) c.as_slice.ensures in
    none_other c.args.self.now c.requires.keeps.0 c.args.at c.index.result.now k there begins c.deref.result.now batch c.requires.running _ c.append.result c.append.ensures.cause
    c.in-Err-Stopped.field-0 c.in-Err-Stopped.is (λ b l h. cc (h, c.in-Err-Stopped.field-0-is)) (λ h. cc (h, c.in-Err-Stopped.field-0-is)) (λ h. cc (h, c.in-Err-Stopped.field-0-is))

pub returns-in-Ok-append-clause-any_moment : goal.returns-in-Ok-append-clause-any_moment
returns-in-Ok-append-clause-any_moment g c = λ tells on s k.
    committing g.D.Disk.state c.args.disk.now c.append.new.disk c.args.self.now s k on c.append.result c.args.at c.index.result.now
    (work_there c.args.self.now c.args.at c.index.result.now c.requires.next c.index.ensures) (work_begins c.args.self.now c.args.at c.index.result.now c.requires.next c.index.ensures)
    c.deref.result.now (ap (λ (rs : List (Vec ℕ Global)). batch_of rs) c.deref.ensures.value ∙ c.in-Ok.ensures ∙ ap (λ (os : List Outcome). map outcome_bytes os) c.as_slice.ensures)
    c.requires.running c.append.ensures.cause (c.append.ensures.any_moment tells on.index_batches on.index)

pub returns-in-Err-LogFull-clause-any_moment : goal.returns-in-Err-LogFull-clause-any_moment
returns-in-Err-LogFull-clause-any_moment g c = λ tells on s k.
    committing g.D.Disk.state c.args.disk.now c.append.new.disk c.args.self.now s k on c.append.result c.args.at c.index.result.now
    (work_there c.args.self.now c.args.at c.index.result.now c.requires.next c.index.ensures) (work_begins c.args.self.now c.args.at c.index.result.now c.requires.next c.index.ensures)
    c.deref.result.now (ap (λ (rs : List (Vec ℕ Global)). batch_of rs) c.deref.ensures.value ∙ c.in-Ok.ensures ∙ ap (λ (os : List Outcome). map outcome_bytes os) c.as_slice.ensures)
    c.requires.running c.append.ensures.cause (c.append.ensures.any_moment tells on.index_batches on.index)

pub returns-in-Err-DiskFault-clause-any_moment : goal.returns-in-Err-DiskFault-clause-any_moment
returns-in-Err-DiskFault-clause-any_moment g c = λ tells on s k.
    committing g.D.Disk.state c.args.disk.now c.append.new.disk c.args.self.now s k on c.append.result c.args.at c.index.result.now
    (work_there c.args.self.now c.args.at c.index.result.now c.requires.next c.index.ensures) (work_begins c.args.self.now c.args.at c.index.result.now c.requires.next c.index.ensures)
    c.deref.result.now (ap (λ (rs : List (Vec ℕ Global)). batch_of rs) c.deref.ensures.value ∙ c.in-Ok.ensures ∙ ap (λ (os : List Outcome). map outcome_bytes os) c.as_slice.ensures)
    c.requires.running c.append.ensures.cause (c.append.ensures.any_moment tells on.index_batches on.index)

pub returns-in-Err-OutOfMemory-clause-any_moment : goal.returns-in-Err-OutOfMemory-clause-any_moment
returns-in-Err-OutOfMemory-clause-any_moment g c = λ tells on s k.
    committing g.D.Disk.state c.args.disk.now c.append.new.disk c.args.self.now s k on c.append.result c.args.at c.index.result.now
    (work_there c.args.self.now c.args.at c.index.result.now c.requires.next c.index.ensures) (work_begins c.args.self.now c.args.at c.index.result.now c.requires.next c.index.ensures)
    c.deref.result.now (ap (λ (rs : List (Vec ℕ Global)). batch_of rs) c.deref.ensures.value ∙ c.in-Ok.ensures ∙ ap (λ (os : List Outcome). map outcome_bytes os) c.as_slice.ensures)
    c.requires.running c.append.ensures.cause (c.append.ensures.any_moment tells on.index_batches on.index)

pub returns-in_default-clause-any_moment : goal.returns-in_default-clause-any_moment
returns-in_default-clause-any_moment g c = λ tells on s k. nothing_yet c.args.self.now s k (g.D.Disk.state c.args.disk.now) on (commits s)

pub returns-then-is_err-clause-any_moment : goal.returns-then-is_err-clause-any_moment
returns-then-is_err-clause-any_moment g c = λ tells on s k. nothing_yet c.args.self.now s k (g.D.Disk.state c.args.disk.now) on (commits s)
