use Rattle.std.proofs.Common.{◌≡◌, refl, ap, sym, ◌∙◌, false, Err, Some, nat_lt, ◌+◌, ℕ}
use Rattle.gl_gatelog.specs.declared.kind.LogFault.{LogFault}
use Rattle.gl_gatelog.specs.declared.kind.LogFault.TheVariants.{LogFull}
use Rattle.gl_gatelog.specs.Batch.{Batch, size}
use Rattle.gl_gatelog.specs.View.{batch_of, appended, refused, has_long}
use Rattle.gl_node.specs.Node.{store_of}
use Rattle.gl_node.proofs.Entered.{is_short, fits, full, journalled, journal_full, two_logs, on_added, on_same}
use Rattle.gl_node.proofs.Moments.{entering}
use Rattle.gl_node.proofs.node.Node.add.Goals as goal

pub returns-in-Ok-clause-answer : goal.returns-in-Ok-clause-answer
returns-in-Ok-clause-answer g c s keeps =
    let node = c.args.self.now in
    let short : has_long (batch_of c.args.records.now) ≡ false = ap has_long c.requires.record_is ∙ is_short node.entries.items c.args.entry c.requires.follows in
    let small = fits node.journal (batch_of c.args.records.now) c.requires.open short c.append.result _ c.append.ensures.cause c.in-Ok.position c.in-Ok.is in
    journalled node s c.args.entry keeps c.requires.follows c.append.new.self c.push_within.new.entries c.in-Ok.position
    (c.in-Ok.ensures.value.1 ∙ ap (appended node.journal) c.requires.record_is) c.push_within.ensures c.in-Ok.ensures.value.0
    (ap (λ (b : Batch). nat_lt node.journal.limit (node.journal.bytes + size b)) (sym c.requires.record_is) ∙ small)

pub returns-in-Ok-clause-stands : goal.returns-in-Ok-clause-stands
returns-in-Ok-clause-stands g c tells running on =
    let node = c.args.self.now in
    let d0 = g.D.Disk.state c.args.disk.now in
    let d1 = g.D.Disk.state c.append.new.disk in
    on_added (store_of node) d0 d1 (two_logs node.journal node.index c.requires.logs.0 c.requires.logs.1) on (batch_of c.args.records.now)
    (c.append.ensures.any_moment tells on.journal_batches on.journal)
    c.append.new.self c.push_within.new.entries.items c.args.entry c.requires.record_is c.push_within.ensures
    (c.in-Ok.ensures.added tells on.journal_batches on.journal)

pub returns-in-Err-LogFull-clause-answer : goal.returns-in-Err-LogFull-clause-answer
returns-in-Err-LogFull-clause-answer g c s keeps =
    let node = c.args.self.now in
    let short : has_long (batch_of c.args.records.now) ≡ false = ap has_long c.requires.record_is ∙ is_short node.entries.items c.args.entry c.requires.follows in
    let is : c.append.result ≡ Err (LogFull c.in-Err-LogFull.bytes c.in-Err-LogFull.limit) = c.in-Err-LogFull.is ∙ ap (λ (e : LogFault). Err e) c.in-Err-LogFull.field-0-is in
    let large = full node.journal (batch_of c.args.records.now) c.requires.open short c.append.result _ c.append.ensures.cause c.in-Err-LogFull.bytes c.in-Err-LogFull.limit is in
    journal_full node s c.args.entry keeps c.append.new.self c.in-Err-LogFull.bytes c.in-Err-LogFull.limit (c.in-Err-LogFull.ensures.value ∙ ap (refused node.journal) c.in-Err-LogFull.field-0-is) large.1 large.2
    (ap (λ (b : Batch). nat_lt node.journal.limit (node.journal.bytes + size b)) (sym c.requires.record_is) ∙ large.0)

pub returns-in-Err-DiskFault-clause-faults : goal.returns-in-Err-DiskFault-clause-faults
returns-in-Err-DiskFault-clause-faults g c = record {
  later = c.append.ensures.faults.later;
  rose = λ faults is.
      let same : c.faults-faults.result ≡ faults = cc is in
      (c.append.ensures.faults.rose (c.in-Err-DiskFault.is ∙ ap (λ (e : LogFault). Err e) c.in-Err-DiskFault.field-0-is), sym same ∙ c.faults-faults.ensures, ap (λ (n : ℕ). Some n) same);
  steady = λ none. absurd (none c.faults-faults.result refl);
  running = λ runs faults is. absurd (cc is);
}

pub returns-in-Err-OutOfMemory-clause-stands : goal.returns-in-Err-OutOfMemory-clause-stands
returns-in-Err-OutOfMemory-clause-stands g c tells running on =
    let node = c.args.self.now in
    let d0 = g.D.Disk.state c.args.disk.now in
    let d1 = g.D.Disk.state c.append.new.disk in
    on_same (store_of node) d0 d1 (two_logs node.journal node.index c.requires.logs.0 c.requires.logs.1) on (batch_of c.args.records.now)
    (c.append.ensures.any_moment tells on.journal_batches on.journal)
    c.append.new.self (c.in-Err-OutOfMemory.ensures.memory tells (ap (λ (e : LogFault). Err e) c.in-Err-OutOfMemory.field-0-is) on.journal_batches on.journal)

pub returns-in-Ok-clause-any_moment : goal.returns-in-Ok-clause-any_moment
returns-in-Ok-clause-any_moment g c tells on s keeps =
    entering g.D.Disk.state c.args.disk.now c.append.new.disk c.args.self.now s keeps on c.append.result c.args.entry (batch_of c.args.records.now) c.requires.follows c.requires.record_is c.requires.open
    c.append.ensures.cause (c.append.ensures.any_moment tells on.journal_batches on.journal)

pub returns-in-Err-LogFull-clause-any_moment : goal.returns-in-Err-LogFull-clause-any_moment
returns-in-Err-LogFull-clause-any_moment g c tells on s keeps =
    entering g.D.Disk.state c.args.disk.now c.append.new.disk c.args.self.now s keeps on c.append.result c.args.entry (batch_of c.args.records.now) c.requires.follows c.requires.record_is c.requires.open
    c.append.ensures.cause (c.append.ensures.any_moment tells on.journal_batches on.journal)

pub returns-in-Err-DiskFault-clause-any_moment : goal.returns-in-Err-DiskFault-clause-any_moment
returns-in-Err-DiskFault-clause-any_moment g c tells on s keeps =
    entering g.D.Disk.state c.args.disk.now c.append.new.disk c.args.self.now s keeps on c.append.result c.args.entry (batch_of c.args.records.now) c.requires.follows c.requires.record_is c.requires.open
    c.append.ensures.cause (c.append.ensures.any_moment tells on.journal_batches on.journal)

pub returns-in-Err-OutOfMemory-clause-any_moment : goal.returns-in-Err-OutOfMemory-clause-any_moment
returns-in-Err-OutOfMemory-clause-any_moment g c tells on s keeps =
    entering g.D.Disk.state c.args.disk.now c.append.new.disk c.args.self.now s keeps on c.append.result c.args.entry (batch_of c.args.records.now) c.requires.follows c.requires.record_is c.requires.open
    c.append.ensures.cause (c.append.ensures.any_moment tells on.journal_batches on.journal)
