use Rattle.std.proofs.Common.{◌≡◌, ℕ, ◌+◌, true, List, ◌∷◌, length, sym, ◌∙◌, ap, subst, arith}
use Rattle.gl_outside.specs.declared.areas.Area.{Area}
use Rattle.gl_outside.specs.Areas.{bytes_in}
use Rattle.gl_outside.specs.Events.{Event, Wrote, Synced, content}
use Rattle.gl_outside.specs.RecordView.{RecordView}
use Rattle.gl_outside.proofs.FoundAreas.{Found, next, all_found}
use Rattle.gl_outside.proofs.memory.record_of.Goals as goal

pub loop-a-preserved : goal.loop-a-preserved
loop-a-preserved c =
    let areas = c.args.areas.now in
    let n : ℕ = c.a-item.result.number in
    let before : List Event = c.loop-a.calls.events in
    let events : c.sync.new.self.events ≡ Synced n ∷ Wrote n 0 (bytes_in areas n) true ∷ before =
    ap (λ (v : RecordView). v.events) c.sync.ensures
    ∙ ap (λ (v : RecordView). Synced n ∷ v.events) c.write.ensures
    ∙ ap (λ (l : List ℕ). Synced n ∷ Wrote n 0 l true ∷ c.reserve.new.self.events) c.bytes_of-bytes.ensures
    ∙ ap (λ (v : RecordView). Synced n ∷ Wrote n 0 (bytes_in areas n) true ∷ v.events) c.in_ok-reserve.ensures.ok in
    subst (λ (l : List Event). Found areas (c.loop-a.a-index + 1) l) (sym events) (next areas c.loop-a.a-index n before c.a-item.result c.loop-a-test.true (ap (λ (a : Area). a.number) c.a-item.is) c.loop-a.invariant)

pub returns-clause-holds : goal.returns-clause-holds
returns-clause-holds c b =
    let all : c.loop-a.a-index ≡ length c.args.areas.now = omega (arith, c.loop-a-test.false, c.loop-a.auto.a-index-end) in
    all_found c.args.areas.now c.loop-a.calls.events (subst (λ (k : ℕ). Found c.args.areas.now k c.loop-a.calls.events) all c.loop-a.invariant) b
    ∙ sym (ap (λ (v : RecordView). content v.events b) c.in_ok-reserve-2.ensures.ok)
