use Rattle.std.proofs.Common.{◌≡◌, ◌+◌, ◌++◌, ◌<◌, ap, Err, ◌≤◌, ◌∙◌, sym, subst, map, length, take, List, arith}
use Rattle.std.specs.List.{All}
use Rattle.std.proofs.lemmas.List.{length-map, length_push}
use Rattle.std.proofs.lemmas.List.Elements.{All-push}
use Rattle.gl_gatelog.specs.View.{batch_of}
use Rattle.gl_fields.specs.declared.entry.Outcome.{Outcome}
use Rattle.gl_fields.specs.declared.entry.Outcome.TheVariants.{Dropped}
use Rattle.gl_fields.specs.Outcomes.{outcome_bytes}
use Rattle.gl_fields.specs.Bounds.{IsOutcome}
use Rattle.gl_node.proofs.Taking.{at_hand, no_outcomes, one_more, no_outcome}
use Rattle.gl_node.proofs.reading.take_outcomes.Goals as goal

pub returns-then-len-entries-clause-refused : goal.returns-then-len-entries-clause-refused
returns-then-len-entries-clause-refused c = λ refused.
    let k = c.loop-record.record-index in
    no_outcomes c.args.entries c.loop-record.outcomes.items (map outcome_bytes c.args.outcomes.now.items) (batch_of c.args.records.now) k Dropped
    (omega (arith, c.loop-record-test.true, length-map c.args.records.now (λ v. v.items)))
    c.loop-record.invariant.0
    (λ o is within fewer. omega (arith, fewer, c.len.ensures, c.if-len-entries.true))

pub returns-in-Err-NotAnEntry-clause-refused : goal.returns-in-Err-NotAnEntry-clause-refused
returns-in-Err-NotAnEntry-clause-refused c = λ refused.
    let k = c.loop-record.record-index in
    let lt : k < length c.args.records.now = omega (arith, c.loop-record-test.true) in
    no_outcomes c.args.entries c.loop-record.outcomes.items (map outcome_bytes c.args.outcomes.now.items) (batch_of c.args.records.now) k Dropped
    (omega (arith, lt, length-map c.args.records.now (λ v. v.items)))
    c.loop-record.invariant.0
    (λ o is within fewer.
    no_outcome o c.decode_outcome.result c.in-Err-NotAnEntry.field-0-0 (c.in-Err-NotAnEntry.is ∙ ap (λ x. Err x) c.in-Err-NotAnEntry.field-0-is)
    (c.decode_outcome.ensures.only o within
    (c.deref.ensures.value ∙ sym (at_hand c.args.records.now k c.record-item.result lt c.record-item.is) ∙ is)))

pub loop-record-preserved : goal.loop-record-preserved
loop-record-preserved c =
    let k = c.loop-record.record-index in
    let lt : k < length c.args.records.now = omega (arith, c.loop-record-test.true) in
    let taken = c.loop-record.outcomes.items in
    let bytes = sym (c.deref.ensures.value ∙ sym (at_hand c.args.records.now k c.record-item.result lt c.record-item.is)) ∙ c.in-Ok.ensures.found.1 in
    subst (λ (os : List Outcome). (map outcome_bytes os ≡ map outcome_bytes c.args.outcomes.now.items ++ take (k + 1) (batch_of c.args.records.now)) × All IsOutcome os × (length os ≤ c.args.entries))
    (sym c.in_ok-push-in-Ok.ensures.items) (
      one_more outcome_bytes taken (map outcome_bytes c.args.outcomes.now.items) (batch_of c.args.records.now) k c.in-Ok.outcome
          (omega (arith, lt, length-map c.args.records.now (λ v. v.items))) c.loop-record.invariant.0 bytes,
      All-push IsOutcome taken c.in-Ok.outcome c.loop-record.invariant.1 c.in-Ok.ensures.found.0,
      omega (arith, length_push taken c.in-Ok.outcome, c.loop-record.invariant.2, c.len.ensures, c.if-len-entries.false),
    )
