use Rattle.std.proofs.Common.{◌≡◌, ℕ, ◌∷◌, [], ◌++◌, List, length, map, sym, ◌∙◌, ap, subst, arith, Option, MatchOption, Vec, Err, true}
use Rattle.std.specs.declared.alloc.Global.{Global}
use Rattle.std.specs.Bool.{⊤}
use Rattle.std.proofs.lemmas.List.{length-map}
use Rattle.gl_gatelog.specs.declared.kind.Log.TheVariants.{Journal}
use Rattle.gl_gatelog.specs.declared.kind.LogFault.{LogFault}
use Rattle.gl_gatelog.specs.Log.{records_of}
use Rattle.gl_gatelog.specs.View.{batch_of}
use Rattle.gl_gatelog.specs.Progress.{HasRead, HasEnded, IsFurther, IsNoFurther}
use Rattle.gl_gatelog.proofs.Reopening.{only_read_on, unchanged_on}
use Rattle.gl_outside.proofs.Telling.{still}
use Rattle.gl_node.proofs.Logs.{batch_damage, next_damage, of_further, records_push}
use Rattle.std.proofs.Common.{length-append}
use Rattle.gl_fields.specs.Entries.{entry_bytes}
use Rattle.gl_node.specs.Damage.{AreEntries}
use Rattle.gl_node.proofs.reading.read_journal.Goals as goal

pub returns-in-Err-next-clause-damaged : goal.returns-in-Err-next-clause-damaged
returns-in-Err-next-clause-damaged g c tells log area at is =
    let s0 = g.D.Disk.state c.args.disk.now in
    let s1 = g.D.Disk.state c.loop-fault.disk in
    let inv = c.loop-fault.invariant in
    let so_far = inv.read tells in
    next_damage Journal log AreEntries c.loop-fault.opening so_far.0 s1 s0 c.in-Err-next.fault area at so_far.1 inv.of_log.log_is (inv.unchanged tells).reads
    (c.loop-fault.entries.items, so_far.2, inv.lawful)
    (cc (is, c.open_fault-in-Err-next.ensures)) c.in-Err-next.ensures.cause
    (λ here. c.next.ensures.damaged (still s0 s1 inv.tells tells) so_far.0 so_far.1 (c.in-Err-next.is ∙ ap (λ (x : LogFault). Err x) here))

pub returns-in-Ok-None-clause-read : goal.returns-in-Ok-None-clause-read
returns-in-Ok-None-clause-read g c tells =
    let s0 = g.D.Disk.state c.args.disk.now in
    let s1 = g.D.Disk.state c.loop-fault.disk in
    let s2 = g.D.Disk.state c.next.new.disk in
    let inv = c.loop-fault.invariant in
    let so_far = inv.read tells in
    let found = subst (λ (o : Option (Vec (Vec ℕ Global) Global)). MatchOption o (HasRead c.next.new.self so_far.0 s2 × HasEnded c.next.new.self s2) (λ v. HasRead c.next.new.self (so_far.0 ++ batch_of v.items ∷ []) s2))
    c.in-Ok-None.field-0-is (c.in-Ok-None.ensures.read (still s0 s1 inv.tells tells) so_far.0 so_far.1) in
    record { batches = so_far.0; read = found.0; ended = found.1; records_are = so_far.2 }

pub returns-then-not-branch-clause-damaged : goal.returns-then-not-branch-clause-damaged
returns-then-not-branch-clause-damaged g c tells log area at is =
    let s0 = g.D.Disk.state c.args.disk.now in
    let s1 = g.D.Disk.state c.loop-fault.disk in
    let s2 = g.D.Disk.state c.next.new.disk in
    let inv = c.loop-fault.invariant in
    let so_far = inv.read tells in
    let t1 = still s0 s1 inv.tells tells in
    let batch = batch_of c.in-Ok-Some.records.items in
    let more = subst (λ (o : Option (Vec (Vec ℕ Global) Global)). MatchOption o (HasRead c.next.new.self so_far.0 s2 × HasEnded c.next.new.self s2) (λ v. HasRead c.next.new.self (so_far.0 ++ batch_of v.items ∷ []) s2))
    c.in-Ok-Some.field-0-is (c.in-Ok-Some.ensures.read t1 so_far.0 so_far.1) in
    let further : IsFurther batch c.loop-fault.opening c.next.new.self = subst (λ (o : Option (Vec (Vec ℕ Global) Global)). MatchOption o (IsNoFurther c.loop-fault.opening c.next.new.self) (λ v. IsFurther (batch_of v.items) c.loop-fault.opening c.next.new.self))
    c.in-Ok-Some.field-0-is c.in-Ok-Some.ensures.value in
    batch_damage Journal log AreEntries c.loop-fault.opening c.next.new.self so_far.0 batch s1 s2 s0 c.next_place-area.result.0 c.next_place-area.result.1 area at so_far.1 more further inv.of_log.log_is
    (c.next.ensures.unchanged t1).reads (inv.unchanged tells).reads
    (c.loop-fault.entries.items, so_far.2, inv.lawful)
    (λ are. c.in_ok-take_entries-in-Ok-Some.ensures.refused c.if-not-branch.true
    (subst (λ (rs : List (List ℕ)). AreEntries (rs ++ batch_of c.deref.result.now)) so_far.2
    (subst (λ (vs : List (Vec ℕ Global)). AreEntries (records_of so_far.0 ++ batch_of vs)) (sym c.deref.ensures.value) are)))
    (ap (λ (p : ℕ × ℕ). p.0) c.next_place-area.ensures) (ap (λ (p : ℕ × ℕ). p.1) c.next_place-area.ensures) (cc is)

pub loop-fault-preserved : goal.loop-fault-preserved
loop-fault-preserved g c =
    let s0 = g.D.Disk.state c.args.disk.now in
    let s1 = g.D.Disk.state c.loop-fault.disk in
    let s2 = g.D.Disk.state c.next.new.disk in
    let inv = c.loop-fault.invariant in
    let batch = batch_of c.in-Ok-Some.records.items in
    let further : IsFurther batch c.loop-fault.opening c.next.new.self = subst (λ (o : Option (Vec (Vec ℕ Global) Global)). MatchOption o (IsNoFurther c.loop-fault.opening c.next.new.self) (λ v. IsFurther (batch_of v.items) c.loop-fault.opening c.next.new.self))
    c.in-Ok-Some.field-0-is c.in-Ok-Some.ensures.value in
    let has_begin : c.loop-fault.opening.has_begin ≡ true = subst (λ (o : Option (Vec (Vec ℕ Global) Global)). MatchOption o ⊤ (λ v. c.loop-fault.opening.has_begin ≡ true)) c.in-Ok-Some.field-0-is c.in-Ok-Some.ensures.with_begin in
    let taken = c.in_ok-take_entries-in-Ok-Some.ensures.taken c.if-not-branch.false in
    let same_batch : batch_of c.deref.result.now ≡ batch = ap (λ (vs : List (Vec ℕ Global)). batch_of vs) c.deref.ensures.value in
    let bytes : map entry_bytes c.take_entries.new.entries.items ≡ map entry_bytes c.loop-fault.entries.items ++ batch = taken.0 ∙ ap (λ rs. map entry_bytes c.loop-fault.entries.items ++ rs) same_batch in
    record {
      lawful = taken.1;
      of_log = of_further Journal c.args.segment c.args.limit (length c.loop-fault.entries.items) (length c.take_entries.new.entries.items) batch c.loop-fault.opening c.next.new.self inv.of_log has_begin further
          (omega (
            arith,
            ap (λ rs. length rs) bytes,
            length-append (map entry_bytes c.loop-fault.entries.items) batch,
            length-map c.take_entries.new.entries.items entry_bytes,
            length-map c.loop-fault.entries.items entry_bytes,
          ));
      read = λ tells.
          let so_far = inv.read tells in
          let more = subst (λ (o : Option (Vec (Vec ℕ Global) Global)). MatchOption o (HasRead c.next.new.self so_far.0 s2 × HasEnded c.next.new.self s2) (λ v. HasRead c.next.new.self (so_far.0 ++ batch_of v.items ∷ []) s2))
          c.in-Ok-Some.field-0-is (c.in-Ok-Some.ensures.read (still s0 s1 inv.tells tells) so_far.0 so_far.1) in
          (so_far.0 ++ batch ∷ [], more, records_push so_far.0 batch ∙ ap (λ rs. rs ++ batch) so_far.2 ∙ sym bytes);
      unchanged = λ tells. unchanged_on s0 s1 s2 (inv.unchanged tells) (c.next.ensures.unchanged (still s0 s1 inv.tells tells));
      only_read = λ tells. only_read_on s0 s1 s2 (inv.only_read tells) (inv.unchanged tells) (c.next.ensures.only_read (still s0 s1 inv.tells tells));
      tells = c.next.ensures.tells ∙ inv.tells;
      faults = c.next.ensures.faults.steady (λ e. cc (c.in-Ok-Some.is, e)) ∙ inv.faults;
    }
