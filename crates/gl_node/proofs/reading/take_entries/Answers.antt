use Rattle.std.proofs.Common.{◌≡◌, ◌+◌, ◌++◌, ◌<◌, ap, Err, ◌∙◌, sym, subst, map, length, take, List, arith}
use Rattle.std.proofs.lemmas.List.{length-map}
use Rattle.gl_gatelog.specs.View.{batch_of}
use Rattle.gl_fields.specs.declared.entry.Entry.{Entry}
use Rattle.gl_fields.specs.Entries.{entry_bytes}
use Rattle.gl_node.specs.Standing.{IsLawful}
use Rattle.gl_node.proofs.Taking.{at_hand, does_follow, entry_within, lawful_taken, no_entries, not_follows, one_more, no_entry}
use Rattle.gl_node.proofs.reading.take_entries.Goals as goal

pub returns-then-not-may_follow-clause-refused : goal.returns-then-not-may_follow-clause-refused
returns-then-not-may_follow-clause-refused c = λ refused.
    let k = c.loop-record.record-index in
    let lt : k < length c.args.records.now = omega (arith, c.loop-record-test.true) in
    no_entries c.loop-record.entries.items (map entry_bytes c.args.entries.now.items) (batch_of c.args.records.now) k
    (omega (arith, lt, length-map c.args.records.now (λ v. v.items)))
    c.loop-record.invariant.0 c.loop-record.invariant.1
    (λ e is follows. not_follows c.loop-record.entries.items c.args.config.now c.in-Ok.entry e c.deref.result.now c.may_follow.result c.loop-record.invariant.1 c.requires.config
    c.if-not-may_follow.true c.may_follow.ensures c.in-Ok.ensures.found.0 c.in-Ok.ensures.found.1
    (c.deref.ensures.value ∙ sym (at_hand c.args.records.now k c.record-item.result lt c.record-item.is) ∙ is) follows)

pub returns-in-Err-NotAnEntry-clause-refused : goal.returns-in-Err-NotAnEntry-clause-refused
returns-in-Err-NotAnEntry-clause-refused c = λ refused.
    let k = c.loop-record.record-index in
    let lt : k < length c.args.records.now = omega (arith, c.loop-record-test.true) in
    no_entries c.loop-record.entries.items (map entry_bytes c.args.entries.now.items) (batch_of c.args.records.now) k
    (omega (arith, lt, length-map c.args.records.now (λ v. v.items)))
    c.loop-record.invariant.0 c.loop-record.invariant.1
    (λ e is follows.
    no_entry e c.decode_entry.result c.in-Err-NotAnEntry.field-0-0 (c.in-Err-NotAnEntry.is ∙ ap (λ x. Err x) c.in-Err-NotAnEntry.field-0-is)
    (c.decode_entry.ensures.only e (entry_within c.loop-record.entries.items e follows)
    (c.deref.ensures.value ∙ sym (at_hand c.args.records.now k c.record-item.result lt c.record-item.is) ∙ is)))

pub loop-record-preserved : goal.loop-record-preserved
loop-record-preserved c =
    let k = c.loop-record.record-index in
    let lt : k < length c.args.records.now = omega (arith, c.loop-record-test.true) in
    let taken = c.loop-record.entries.items in
    let follows = does_follow taken c.args.config.now c.in-Ok.entry c.may_follow.result c.loop-record.invariant.1 c.requires.config c.if-not-may_follow.false c.may_follow.ensures in
    let bytes = sym (c.deref.ensures.value ∙ sym (at_hand c.args.records.now k c.record-item.result lt c.record-item.is)) ∙ c.in-Ok.ensures.found.1 in
    subst (λ (es : List Entry). (map entry_bytes es ≡ map entry_bytes c.args.entries.now.items ++ take (k + 1) (batch_of c.args.records.now)) × IsLawful es)
    (sym c.in_ok-push-in-Ok.ensures.items) (
      one_more entry_bytes taken (map entry_bytes c.args.entries.now.items) (batch_of c.args.records.now) k c.in-Ok.entry
          (omega (arith, lt, length-map c.args.records.now (λ v. v.items))) c.loop-record.invariant.0 bytes,
      lawful_taken taken c.in-Ok.entry c.loop-record.invariant.1 follows,
    )
