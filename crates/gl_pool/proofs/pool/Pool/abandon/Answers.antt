use Rattle.std.proofs.Common.{◌+◌, ◌<◌, ◌^◌, List, ◌∷◌, Some, None, sym, subst, arith}
use Rattle.gl_pool.specs.declared.mark.Claim.{Claim}
use Rattle.gl_pool.specs.declared.span.Span.{Span}
use Rattle.gl_pool.specs.Claims.{Abandoned}
use Rattle.gl_pool.specs.Inside.{kept_of}
use Rattle.gl_pool.specs.Kept.{Kept, StandsFor}
use Rattle.gl_pool.proofs.Standing.{held_taken, abandoned_taken, abandoned_none, all_left, end_taken}
use Rattle.gl_pool.proofs.pool.Pool.abandon.Goals as goal

pub returns-in_default-clause-answer : goal.returns-in_default-clause-answer
returns-in_default-clause-answer c = λ start calls h.
    let k = subst (λ (v : Kept). StandsFor v start calls) (sym c.self.view_is) h in
    sym (held_taken (kept_of c.self.inside) start calls k c.take.new.held.items c.args.worker None c.in_default.ensures.taken)

pub returns-in_default-clause-abandoned : goal.returns-in_default-clause-abandoned
returns-in_default-clause-abandoned c = λ start calls h.
    let k = subst (λ (v : Kept). StandsFor v start calls) (sym c.self.view_is) h in
    abandoned_none (kept_of c.self.inside) start calls k c.take.new.held.items c.args.worker c.in_default.ensures.taken

pub overflow_add-mark : goal.overflow_add-mark
overflow_add-mark c = omega (arith, end_taken c.self.inside.held.items c.take.new.held.items c.args.worker c.in-Some.mark (2 ^ 64) c.in-Some.ensures.taken c.self.invariant.ends)

pub invariant_of-self-2 : goal.invariant_of-self-2
invariant_of-self-2 c = record {
  room = omega (arith, c.self.invariant.room, c.in-Some.ensures.fewer, c.push_reserved.ensures.len, c.push_reserved.ensures.capacity);
  ends = all_left (λ (x : Claim). x.mark.first + x.mark.count < 2 ^ 64) c.self.inside.held.items c.take.new.held.items c.args.worker (Some c.in-Some.mark) c.in-Some.ensures.taken c.self.invariant.ends;
}

pub returns-clause-answer : goal.returns-clause-answer
returns-clause-answer c = λ start calls h.
    let k = subst (λ (v : Kept). StandsFor v start calls) (sym c.self.view_is) h in
    sym (held_taken (kept_of c.self.inside) start calls k c.take.new.held.items c.args.worker (Some c.in-Some.mark) c.in-Some.ensures.taken)

pub returns-clause-abandoned : goal.returns-clause-abandoned
returns-clause-abandoned c = λ start calls h.
    let k = subst (λ (v : Kept). StandsFor v start calls) (sym c.self.view_is) h in
    subst (λ (l : List Span). StandsFor (record { held = c.take.new.held.items; spans = l; frontier = c.self.inside.frontier }) start (Abandoned c.args.worker ∷ calls)) (sym c.push_reserved.ensures.items)
    (abandoned_taken (kept_of c.self.inside) start calls k c.take.new.held.items c.args.worker c.in-Some.mark c.in-Some.ensures.taken)
