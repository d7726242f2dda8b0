use Rattle.std.proofs.Common.{◌≡◌, ℕ, ◌<◌, List, length, get_or, refl, sym, ◌∙◌, subst, Option, MatchOption}
use Rattle.gl_gatelog.specs.Batch.{BatchAt}
use Rattle.gl_gatelog.specs.Log.{begin, IsSegmentSize}
use Rattle.gl_gatelog.proofs.Further.{no_begin_at}
use Rattle.gl_gatelog.proofs.reader.Opening.begin.Goals as goal

pub returns-in-None-clause-damaged : goal.returns-in-None-clause-damaged
returns-in-None-clause-damaged g c tells is =
    let s0 = g.D.Disk.state c.args.disk.now in
    let opened = c.if-not-is_opened.ensures.yes refl in
    let same : c.deref.result.now ≡ c.deref-2.result.now = c.deref.ensures.value ∙ sym c.deref-2.ensures.value in
    no_begin_at s0.reads c.args.log c.area_number-number.result c.deref-2.result.now c.area_number-number.ensures (c.deref-2.ensures.value ∙ (c.in_ok-area.ensures.bytes tells).0)
    (subst (λ (l : List ℕ). 1 < length l) same opened.0) (subst (λ (l : List ℕ). get_or l 0 0 ≡ 1) same opened.1)
    (subst (λ (o : Option ℕ). MatchOption o ((s : ℕ) → IsSegmentSize s → BatchAt c.deref-2.result.now 0 (begin c.args.log s) → ⊥) (λ s. IsSegmentSize s × BatchAt c.deref-2.result.now 0 (begin c.args.log s))) c.in-None.is c.in_ok-recorded.ensures)
