use Rattle.std.proofs.Common.{◌≡◌, ℕ, ◌+◌, ◌≤◌, ◌<◌, ◌++◌, length, List, Option, MatchOption, Vec, replicate, ⊎_elim, sym, ◌∙◌, ap, subst, arith}
use Rattle.std.specs.declared.alloc.Global.{Global}
use Rattle.std.proofs.lemmas.Bool.{false≢true}
use Rattle.std.proofs.lemmas.List.Elements.{All-append, All-replicate}
use Rattle.std.specs.List.{All}
use Rattle.gl_gatelog.specs.Batch.{Batch, BatchAt, body, size}
use Rattle.gl_gatelog.specs.View.{batch_of}
use Rattle.gl_gatelog.proofs.Further.{next_bounds}
use Rattle.gl_gatelog.proofs.reader.Opening.take.Goals as goal

pub invariant_of-self-2 : goal.invariant_of-self-2
invariant_of-self-2 c =
    let s = c.self.inside in
    let n = 9 + c.length_of-size.result in
    let r = c.next_place-segment.result in
    let within : ℕ × ℕ → Type 0 = λ (p : ℕ × ℕ). p.0 ≤ 1999999999 in
    let stands : BatchAt c.deref.result.now s.byte (batch_of c.in-Some.records.items) =
    subst (λ (o : Option (Vec (Vec ℕ Global) Global)). MatchOption o ((rs : Batch) → BatchAt c.deref.result.now s.byte rs → ⊥) (λ v. BatchAt c.deref.result.now s.byte (batch_of v.items))) c.in-Some.is c.in_ok-records.ensures in
    let same : n ≡ size (batch_of c.in-Some.records.items) = ap (λ (k : ℕ). 9 + k) (c.length_of-size.ensures.value ∙ ap (λ (l : List (Vec ℕ Global)). length (body (batch_of l))) c.deref-2.ensures.value) in
    let fits : s.byte + n < length s.area.items = omega (arith, same, stands.followed, ap length c.deref.ensures.value) in
    let bounds = next_bounds s.log s.segment_size (s.segment, s.byte) (r.0, r.1) n c.next_place-segment.ensures.place c.self.invariant.segment in
    record {
      segment = c.next_place-segment.ensures.bound;
      within = omega (arith, c.next_place-segment.ensures.within, c.self.invariant.within);
      no_gate = c.next_place-segment.ensures.no_gate;
      held = c.self.invariant.held;
      least = c.self.invariant.least;
      most = c.self.invariant.most;
      begins = λ below. ⊎_elim (λ stays. omega (arith, stays.1, stays.2 below, c.self.invariant.most)) (λ goes. omega (arith, goes.1)) bounds;
      sum = ⊎_elim (λ stays. omega (arith, stays.0, stays.1, c.self.invariant.sum)) (λ goes. omega (arith, goes.0, goes.1, c.self.invariant.sum, c.self.invariant.begins goes.2, c.length_of-size.ensures.bounded)) bounds;
      places = subst (λ (l : List (ℕ × ℕ)). All within l) (sym (c.fill.ensures ∙ ap (λ (l : List (ℕ × ℕ)). l ++ replicate c.len-2.result (s.segment, s.byte)) c.in_ok-reserve.ensures.items))
          (All-append within s.places.items (replicate c.len-2.result (s.segment, s.byte)) c.self.invariant.places (All-replicate within c.len-2.result (s.segment, s.byte) c.self.invariant.segment));
      first = λ none. absurd (false≢true (sym none ∙ ap (λ v. v.has_begin) c.self.view_is ∙ c.requires.with_begin));
    }
