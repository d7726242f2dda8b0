use Rattle.std.proofs.Common.{List, [], length, subst, refl, ◌∙◌, ap, arith, Err, inr}
use Rattle.gl_gatelog.specs.declared.kind.Log.TheVariants.{Journal, Index}
use Rattle.gl_gatelog.specs.View.{GateView}
use Rattle.gl_gatelog.proofs.Reopening.{only_read_on, unchanged_on}
use Rattle.gl_node.specs.declared.config.Config.{Config}
use Rattle.gl_node.specs.declared.config.Input.{Input}
use Rattle.gl_node.specs.declared.fault.OpenFault.{OpenFault}
use Rattle.gl_node.specs.Node.{AreTables}
use Rattle.gl_outside.proofs.Telling.{still}
use Rattle.gl_node.proofs.Openings.{both_found, both_read, first_beyond, second_beyond, index_damaged, journal_damaged, not_damaged, refused_as, refuses, shows_read, taken_exit, taken_moments, told_is}
use Rattle.gl_node.proofs.Reopened.{at_logs, base_read, keeps_opened, keeps_shown, runs_read}
use Rattle.gl_node.proofs.node.Node.open.Goals as goal

pub returns-in_err-journal-clause-refused : goal.returns-in_err-journal-clause-refused
returns-in_err-journal-clause-refused g c tells log area at damaged =
    let image = (g.D.Disk.state c.args.disk.now).reads in
    refused_as c.from_residual-in_err-journal.result c.in_err-journal.field-0.0 log area at c.from_residual-in_err-journal.ensures
    (refuses image log area at damaged c.in_err-journal.field-0.0 (λ log2 area2 at2 is.
    journal_damaged image log2 area2 at2 (c.in_err-journal.ensures.damaged tells log2 area2 at2 (ap (λ (e : OpenFault). Err e) is))))

pub returns-in_err-index-clause-damaged : goal.returns-in_err-index-clause-damaged
returns-in_err-index-clause-damaged g c tells log area at told =
    let d0 = g.D.Disk.state c.args.disk.now in
    let d1 = g.D.Disk.state c.read_journal.new.disk in
    let t1 = still d0 d1 c.read_journal.ensures.tells tells in
    index_damaged c.in_ok-journal.journal c.in_ok-journal.entries.items d0 d1 (c.in_ok-journal.ensures.read tells) c.args.options c.in_ok-journal.ensures.value.0
    c.in_ok-journal.ensures.value.1 (c.read_journal.ensures.unchanged tells) c.len.result (omega (arith, c.len.ensures)) log area at
    (c.in_err-index.ensures.damaged t1 log area at (ap (λ (e : OpenFault). Err e) (told_is c.from_residual-in_err-index.result c.in_err-index.field-0.0 log area at c.from_residual-in_err-index.ensures told)))

pub returns-in_err-index-clause-refused : goal.returns-in_err-index-clause-refused
returns-in_err-index-clause-refused g c tells log area at damaged =
    let d0 = g.D.Disk.state c.args.disk.now in
    let d1 = g.D.Disk.state c.read_journal.new.disk in
    let t1 = still d0 d1 c.read_journal.ensures.tells tells in
    refused_as c.from_residual-in_err-index.result c.in_err-index.field-0.0 log area at c.from_residual-in_err-index.ensures
    (refuses d0.reads log area at damaged c.in_err-index.field-0.0 (λ log2 area2 at2 is.
    index_damaged c.in_ok-journal.journal c.in_ok-journal.entries.items d0 d1 (c.in_ok-journal.ensures.read tells) c.args.options c.in_ok-journal.ensures.value.0
    c.in_ok-journal.ensures.value.1 (c.read_journal.ensures.unchanged tells) c.len.result (omega (arith, c.len.ensures)) log2 area2 at2
    (c.in_err-index.ensures.damaged t1 log2 area2 at2 (ap (λ (e : OpenFault). Err e) is))))

pub returns-in_err-journal-2-clause-left : goal.returns-in_err-journal-2-clause-left
returns-in_err-journal-2-clause-left g c tells log area at damaged =
    let d0 = g.D.Disk.state c.args.disk.now in
    let d1 = g.D.Disk.state c.read_journal.new.disk in
    let d2 = g.D.Disk.state c.read_index.new.disk in
    let t1 = still d0 d1 c.read_journal.ensures.tells tells in
    let first = c.read_journal.ensures.unchanged tells in
    let second = c.read_index.ensures.unchanged t1 in
    let same = unchanged_on d0 d1 d2 first second in
    let j = c.in_ok-journal.ensures.value in
    let i = c.in_ok-index.ensures.value in
    let r = both_read c.args.options c.in_ok-journal.journal c.in_ok-index.index c.in_ok-journal.entries.items c.in_ok-index.outcomes.items d1 d2
    j.0 i.0 (c.in_ok-journal.ensures.read tells) second (c.in_ok-index.ensures.read t1) j.1 i.1 (omega (arith, i.2, c.len.ensures)) in
    absurd (not_damaged c.args.options c.in_ok-journal.journal c.in_ok-index.index c.in_ok-journal.entries.items c.in_ok-index.outcomes.items d0 d2 same r log area at damaged)

pub returns-in_err-journal-2-clause-any_moment : goal.returns-in_err-journal-2-clause-any_moment
returns-in_err-journal-2-clause-any_moment g c tells journal found store =
    let d0 = g.D.Disk.state c.args.disk.now in
    let d1 = g.D.Disk.state c.read_journal.new.disk in
    let d2 = g.D.Disk.state c.read_index.new.disk in
    let t1 = still d0 d1 c.read_journal.ensures.tells tells in
    let first = c.read_journal.ensures.unchanged tells in
    let second = c.read_index.ensures.unchanged t1 in
    let same = unchanged_on d0 d1 d2 first second in
    let j = c.in_ok-journal.ensures.value in
    let i = c.in_ok-index.ensures.value in
    let r = both_read c.args.options c.in_ok-journal.journal c.in_ok-index.index c.in_ok-journal.entries.items c.in_ok-index.outcomes.items d1 d2
    j.0 i.0 (c.in_ok-journal.ensures.read tells) second (c.in_ok-index.ensures.read t1) j.1 i.1 (omega (arith, i.2, c.len.ensures)) in
    let d3 = g.D.Disk.state c.take_up.new.disk in
    taken_moments c.args.options c.in_ok-journal.journal c.in_ok-index.index c.in_ok-journal.entries.items c.in_ok-index.outcomes.items d0 d2 same r journal found store d3
    (only_read_on d0 d1 d2 (c.read_journal.ensures.only_read tells) first (c.read_index.ensures.only_read t1))
    (c.take_up.ensures.any_moment (still d1 d2 c.read_index.ensures.tells t1) r.journal_all.batches r.index_all.batches r.journal_all.read r.index_all.read
    (first_beyond c.args.options c.in_ok-journal.journal c.in_ok-index.index c.in_ok-journal.entries.items c.in_ok-index.outcomes.items d0 d2 same r journal found store)
    (second_beyond c.args.options c.in_ok-journal.journal c.in_ok-index.index c.in_ok-journal.entries.items c.in_ok-index.outcomes.items d0 d2 same r journal found store))

pub returns-clause-kept : goal.returns-clause-kept
returns-clause-kept g c =
    let j = c.in_ok-journal.ensures.value in
    let i = c.in_ok-index.ensures.value in (
      refl,
      (
        base_read c.args.options c.in_ok-journal.journal c.in_ok-index.index c.in_ok-journal.entries.items c.in_ok-index.outcomes.items,
        record { journal = refl; index = refl },
        keeps_opened _ (base_read c.args.options c.in_ok-journal.journal c.in_ok-index.index c.in_ok-journal.entries.items c.in_ok-index.outcomes.items) refl refl c.in_ok-config.ensures (subst (λ (inputs : List Input). AreTables c.in_ok-tables.tables.items inputs []) (c.as_slice.ensures ∙ ap (λ (x : Config). x.inputs) c.in_ok-config.ensures) c.in_ok-tables.ensures)
            j.1 i.1 (omega (arith, i.2, c.len.ensures)) c.new.ensures.items c.new-2.ensures.items (omega (arith, c.len-next.ensures))
            (at_logs Journal (c.in_ok-journal-2.journal) c.args.options.segment c.args.options.journal_limit (length c.in_ok-journal.entries.items) c.in_ok-journal.journal j.0 c.in_ok-journal-2.ensures.value.0)
            (at_logs Index (c.in_ok-journal-2.index) c.args.options.segment c.args.options.index_limit (length c.in_ok-index.outcomes.items) c.in_ok-index.index i.0 c.in_ok-journal-2.ensures.value.1)
            (ap (λ (x : GateView). x.stopped) c.in_ok-journal-2.ensures.value.0 ∙ runs_read Journal c.args.options.segment c.args.options.journal_limit (length c.in_ok-journal.entries.items) c.in_ok-journal.journal j.0)
            (ap (λ (x : GateView). x.stopped) c.in_ok-journal-2.ensures.value.1 ∙ runs_read Index c.args.options.segment c.args.options.index_limit (length c.in_ok-index.outcomes.items) c.in_ok-index.index i.0),
      ),
    )

pub returns-clause-opened : goal.returns-clause-opened
returns-clause-opened g c tells journal found shown =
    let d0 = g.D.Disk.state c.args.disk.now in
    let d1 = g.D.Disk.state c.read_journal.new.disk in
    let d2 = g.D.Disk.state c.read_index.new.disk in
    let t1 = still d0 d1 c.read_journal.ensures.tells tells in
    let first = c.read_journal.ensures.unchanged tells in
    let second = c.read_index.ensures.unchanged t1 in
    let same = unchanged_on d0 d1 d2 first second in
    let j = c.in_ok-journal.ensures.value in
    let i = c.in_ok-index.ensures.value in
    let r = both_read c.args.options c.in_ok-journal.journal c.in_ok-index.index c.in_ok-journal.entries.items c.in_ok-index.outcomes.items d1 d2
    j.0 i.0 (c.in_ok-journal.ensures.read tells) second (c.in_ok-index.ensures.read t1) j.1 i.1 (omega (arith, i.2, c.len.ensures)) in
    keeps_shown c.args.options c.in_ok-journal.journal c.in_ok-index.index c.in_ok-journal.entries.items c.in_ok-index.outcomes.items d0.reads (both_found c.args.options c.in_ok-journal.journal c.in_ok-index.index c.in_ok-journal.entries.items c.in_ok-index.outcomes.items d0 d2 same r) journal found shown
    _ refl refl c.in_ok-config.ensures (subst (λ (inputs : List Input). AreTables c.in_ok-tables.tables.items inputs []) (c.as_slice.ensures ∙ ap (λ (x : Config). x.inputs) c.in_ok-config.ensures) c.in_ok-tables.ensures) c.new.ensures.items c.new-2.ensures.items (omega (arith, c.len-next.ensures)) c.in_ok-journal-2.ensures.value.0 c.in_ok-journal-2.ensures.value.1
    (runs_read Journal c.args.options.segment c.args.options.journal_limit (length c.in_ok-journal.entries.items) c.in_ok-journal.journal j.0)
    (runs_read Index c.args.options.segment c.args.options.index_limit (length c.in_ok-index.outcomes.items) c.in_ok-index.index i.0)

pub returns-clause-shown : goal.returns-clause-shown
returns-clause-shown g c tells =
    let d0 = g.D.Disk.state c.args.disk.now in
    let d1 = g.D.Disk.state c.read_journal.new.disk in
    let d2 = g.D.Disk.state c.read_index.new.disk in
    let t1 = still d0 d1 c.read_journal.ensures.tells tells in
    let first = c.read_journal.ensures.unchanged tells in
    let second = c.read_index.ensures.unchanged t1 in
    let same = unchanged_on d0 d1 d2 first second in
    let j = c.in_ok-journal.ensures.value in
    let i = c.in_ok-index.ensures.value in
    let r = both_read c.args.options c.in_ok-journal.journal c.in_ok-index.index c.in_ok-journal.entries.items c.in_ok-index.outcomes.items d1 d2
    j.0 i.0 (c.in_ok-journal.ensures.read tells) second (c.in_ok-index.ensures.read t1) j.1 i.1 (omega (arith, i.2, c.len.ensures)) in
    (c.in_ok-journal.entries.items, c.in_ok-index.outcomes.items, shows_read c.args.options c.in_ok-journal.journal c.in_ok-index.index c.in_ok-journal.entries.items c.in_ok-index.outcomes.items d0 d2 same r)

pub returns-clause-stands : goal.returns-clause-stands
returns-clause-stands g c tells journal found store =
    let d0 = g.D.Disk.state c.args.disk.now in
    let d1 = g.D.Disk.state c.read_journal.new.disk in
    let d2 = g.D.Disk.state c.read_index.new.disk in
    let t1 = still d0 d1 c.read_journal.ensures.tells tells in
    let first = c.read_journal.ensures.unchanged tells in
    let second = c.read_index.ensures.unchanged t1 in
    let same = unchanged_on d0 d1 d2 first second in
    let j = c.in_ok-journal.ensures.value in
    let i = c.in_ok-index.ensures.value in
    let r = both_read c.args.options c.in_ok-journal.journal c.in_ok-index.index c.in_ok-journal.entries.items c.in_ok-index.outcomes.items d1 d2
    j.0 i.0 (c.in_ok-journal.ensures.read tells) second (c.in_ok-index.ensures.read t1) j.1 i.1 (omega (arith, i.2, c.len.ensures)) in
    let on = c.in_ok-journal-2.ensures.stands (still d1 d2 c.read_index.ensures.tells t1) r.journal_all.batches r.index_all.batches r.journal_all.read r.index_all.read
    (first_beyond c.args.options c.in_ok-journal.journal c.in_ok-index.index c.in_ok-journal.entries.items c.in_ok-index.outcomes.items d0 d2 same r journal found store)
    (second_beyond c.args.options c.in_ok-journal.journal c.in_ok-index.index c.in_ok-journal.entries.items c.in_ok-index.outcomes.items d0 d2 same r journal found store) in
    record {
      journal_batches = r.journal_all.batches;
      index_batches = r.index_all.batches;
      journal = on.0;
      index = on.1;
      entries = r.journal_all.records_are;
      outcomes = r.index_all.records_are;
    }

pub returns-clause-refused : goal.returns-clause-refused
returns-clause-refused g c tells log area at damaged =
    let d0 = g.D.Disk.state c.args.disk.now in
    let d1 = g.D.Disk.state c.read_journal.new.disk in
    let d2 = g.D.Disk.state c.read_index.new.disk in
    let t1 = still d0 d1 c.read_journal.ensures.tells tells in
    let first = c.read_journal.ensures.unchanged tells in
    let second = c.read_index.ensures.unchanged t1 in
    let same = unchanged_on d0 d1 d2 first second in
    let j = c.in_ok-journal.ensures.value in
    let i = c.in_ok-index.ensures.value in
    let r = both_read c.args.options c.in_ok-journal.journal c.in_ok-index.index c.in_ok-journal.entries.items c.in_ok-index.outcomes.items d1 d2
    j.0 i.0 (c.in_ok-journal.ensures.read tells) second (c.in_ok-index.ensures.read t1) j.1 i.1 (omega (arith, i.2, c.len.ensures)) in
    not_damaged c.args.options c.in_ok-journal.journal c.in_ok-index.index c.in_ok-journal.entries.items c.in_ok-index.outcomes.items d0 d2 same r log area at damaged

pub returns-clause-left : goal.returns-clause-left
returns-clause-left g c tells log area at damaged =
    let d0 = g.D.Disk.state c.args.disk.now in
    let d1 = g.D.Disk.state c.read_journal.new.disk in
    let d2 = g.D.Disk.state c.read_index.new.disk in
    let t1 = still d0 d1 c.read_journal.ensures.tells tells in
    let first = c.read_journal.ensures.unchanged tells in
    let second = c.read_index.ensures.unchanged t1 in
    let same = unchanged_on d0 d1 d2 first second in
    let j = c.in_ok-journal.ensures.value in
    let i = c.in_ok-index.ensures.value in
    let r = both_read c.args.options c.in_ok-journal.journal c.in_ok-index.index c.in_ok-journal.entries.items c.in_ok-index.outcomes.items d1 d2
    j.0 i.0 (c.in_ok-journal.ensures.read tells) second (c.in_ok-index.ensures.read t1) j.1 i.1 (omega (arith, i.2, c.len.ensures)) in
    absurd (not_damaged c.args.options c.in_ok-journal.journal c.in_ok-index.index c.in_ok-journal.entries.items c.in_ok-index.outcomes.items d0 d2 same r log area at damaged)

pub returns-clause-any_moment : goal.returns-clause-any_moment
returns-clause-any_moment g c tells journal found store =
    let d0 = g.D.Disk.state c.args.disk.now in
    let d1 = g.D.Disk.state c.read_journal.new.disk in
    let d2 = g.D.Disk.state c.read_index.new.disk in
    let t1 = still d0 d1 c.read_journal.ensures.tells tells in
    let first = c.read_journal.ensures.unchanged tells in
    let second = c.read_index.ensures.unchanged t1 in
    let same = unchanged_on d0 d1 d2 first second in
    let j = c.in_ok-journal.ensures.value in
    let i = c.in_ok-index.ensures.value in
    let r = both_read c.args.options c.in_ok-journal.journal c.in_ok-index.index c.in_ok-journal.entries.items c.in_ok-index.outcomes.items d1 d2
    j.0 i.0 (c.in_ok-journal.ensures.read tells) second (c.in_ok-index.ensures.read t1) j.1 i.1 (omega (arith, i.2, c.len.ensures)) in
    let d3 = g.D.Disk.state c.take_up.new.disk in
    taken_moments c.args.options c.in_ok-journal.journal c.in_ok-index.index c.in_ok-journal.entries.items c.in_ok-index.outcomes.items d0 d2 same r journal found store d3
    (only_read_on d0 d1 d2 (c.read_journal.ensures.only_read tells) first (c.read_index.ensures.only_read t1))
    (c.take_up.ensures.any_moment (still d1 d2 c.read_index.ensures.tells t1) r.journal_all.batches r.index_all.batches r.journal_all.read r.index_all.read
    (first_beyond c.args.options c.in_ok-journal.journal c.in_ok-index.index c.in_ok-journal.entries.items c.in_ok-index.outcomes.items d0 d2 same r journal found store)
    (second_beyond c.args.options c.in_ok-journal.journal c.in_ok-index.index c.in_ok-journal.entries.items c.in_ok-index.outcomes.items d0 d2 same r journal found store))

pub returns-in_err-journal-2-clause-at_exit : goal.returns-in_err-journal-2-clause-at_exit
returns-in_err-journal-2-clause-at_exit g c tells journal found store =
    let d0 = g.D.Disk.state c.args.disk.now in
    let d1 = g.D.Disk.state c.read_journal.new.disk in
    let d2 = g.D.Disk.state c.read_index.new.disk in
    let t1 = still d0 d1 c.read_journal.ensures.tells tells in
    let first = c.read_journal.ensures.unchanged tells in
    let second = c.read_index.ensures.unchanged t1 in
    let same = unchanged_on d0 d1 d2 first second in
    let j = c.in_ok-journal.ensures.value in
    let i = c.in_ok-index.ensures.value in
    let r = both_read c.args.options c.in_ok-journal.journal c.in_ok-index.index c.in_ok-journal.entries.items c.in_ok-index.outcomes.items d1 d2
    j.0 i.0 (c.in_ok-journal.ensures.read tells) second (c.in_ok-index.ensures.read t1) j.1 i.1 (omega (arith, i.2, c.len.ensures)) in
    let d3 = g.D.Disk.state c.take_up.new.disk in
    inr (taken_exit c.args.options c.in_ok-journal.journal c.in_ok-index.index c.in_ok-journal.entries.items c.in_ok-index.outcomes.items d0 d2 same r journal found store d3
    (c.take_up.ensures.any_moment (still d1 d2 c.read_index.ensures.tells t1) r.journal_all.batches r.index_all.batches r.journal_all.read r.index_all.read
    (first_beyond c.args.options c.in_ok-journal.journal c.in_ok-index.index c.in_ok-journal.entries.items c.in_ok-index.outcomes.items d0 d2 same r journal found store)
    (second_beyond c.args.options c.in_ok-journal.journal c.in_ok-index.index c.in_ok-journal.entries.items c.in_ok-index.outcomes.items d0 d2 same r journal found store)))

pub returns-clause-at_exit : goal.returns-clause-at_exit
returns-clause-at_exit g c tells journal found store =
    let d0 = g.D.Disk.state c.args.disk.now in
    let d1 = g.D.Disk.state c.read_journal.new.disk in
    let d2 = g.D.Disk.state c.read_index.new.disk in
    let t1 = still d0 d1 c.read_journal.ensures.tells tells in
    let first = c.read_journal.ensures.unchanged tells in
    let second = c.read_index.ensures.unchanged t1 in
    let same = unchanged_on d0 d1 d2 first second in
    let j = c.in_ok-journal.ensures.value in
    let i = c.in_ok-index.ensures.value in
    let r = both_read c.args.options c.in_ok-journal.journal c.in_ok-index.index c.in_ok-journal.entries.items c.in_ok-index.outcomes.items d1 d2
    j.0 i.0 (c.in_ok-journal.ensures.read tells) second (c.in_ok-index.ensures.read t1) j.1 i.1 (omega (arith, i.2, c.len.ensures)) in
    let d3 = g.D.Disk.state c.take_up.new.disk in
    inr (taken_exit c.args.options c.in_ok-journal.journal c.in_ok-index.index c.in_ok-journal.entries.items c.in_ok-index.outcomes.items d0 d2 same r journal found store d3
    (c.take_up.ensures.any_moment (still d1 d2 c.read_index.ensures.tells t1) r.journal_all.batches r.index_all.batches r.journal_all.read r.index_all.read
    (first_beyond c.args.options c.in_ok-journal.journal c.in_ok-index.index c.in_ok-journal.entries.items c.in_ok-index.outcomes.items d0 d2 same r journal found store)
    (second_beyond c.args.options c.in_ok-journal.journal c.in_ok-index.index c.in_ok-journal.entries.items c.in_ok-index.outcomes.items d0 d2 same r journal found store)))
