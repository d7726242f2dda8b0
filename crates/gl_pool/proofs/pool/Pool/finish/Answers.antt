use Rattle.std.proofs.Common.{◌+◌, ◌<◌, ◌^◌, ◌∷◌, Some, None, sym, subst, arith}
use Rattle.gl_pool.specs.declared.mark.Claim.{Claim}
use Rattle.gl_pool.specs.Claims.{Finished}
use Rattle.gl_pool.specs.Inside.{kept_of}
use Rattle.gl_pool.specs.Kept.{Kept, StandsFor}
use Rattle.gl_pool.proofs.Standing.{held_taken, finished_taken, committed_is, kept_is, all_left}
use Rattle.gl_pool.proofs.pool.Pool.finish.Goals as goal

pub returns-in_default-clause-answer : goal.returns-in_default-clause-answer
returns-in_default-clause-answer c = λ start calls h.
    let k = subst (λ (v : Kept). StandsFor v start calls) (sym c.self.view_is) h in
    held_taken (kept_of c.self.inside) start calls k c.take.new.held.items c.args.worker None c.in_default.ensures.taken

pub returns-in_default-clause-finished : goal.returns-in_default-clause-finished
returns-in_default-clause-finished c = λ start calls h.
    let k = subst (λ (v : Kept). StandsFor v start calls) (sym c.self.view_is) h in
    finished_taken (kept_of c.self.inside) start calls k c.take.new.held.items c.args.worker None c.in_default.ensures.taken

pub invariant_of-self-2 : goal.invariant_of-self-2
invariant_of-self-2 c = record {
  room = omega (arith, c.self.invariant.room, c.in-Some.ensures.fewer);
  ends = all_left (λ (x : Claim). x.mark.first + x.mark.count < 2 ^ 64) c.self.inside.held.items c.take.new.held.items c.args.worker (Some c.in-Some.mark) c.in-Some.ensures.taken c.self.invariant.ends;
}

pub returns-then-next-mark-clause-answer : goal.returns-then-next-mark-clause-answer
returns-then-next-mark-clause-answer c = λ start calls h.
    let k = subst (λ (v : Kept). StandsFor v start calls) (sym c.self.view_is) h in
    let now = finished_taken (kept_of c.self.inside) start calls k c.take.new.held.items c.args.worker (Some c.in-Some.mark) c.in-Some.ensures.taken in (
      c.in-Some.mark,
      held_taken (kept_of c.self.inside) start calls k c.take.new.held.items c.args.worker (Some c.in-Some.mark) c.in-Some.ensures.taken,
      kept_is start (Finished c.args.worker ∷ calls) c.in-Some.mark c.next_commit-next.result c.if-next-mark.true (c.next_commit-next.ensures start (Finished c.args.worker ∷ calls) now),
    )

pub returns-then-next-mark-clause-finished : goal.returns-then-next-mark-clause-finished
returns-then-next-mark-clause-finished c = λ start calls h.
    let k = subst (λ (v : Kept). StandsFor v start calls) (sym c.self.view_is) h in
    finished_taken (kept_of c.self.inside) start calls k c.take.new.held.items c.args.worker (Some c.in-Some.mark) c.in-Some.ensures.taken

pub returns-else-next-mark-clause-answer : goal.returns-else-next-mark-clause-answer
returns-else-next-mark-clause-answer c = λ start calls h.
    let k = subst (λ (v : Kept). StandsFor v start calls) (sym c.self.view_is) h in
    let now = finished_taken (kept_of c.self.inside) start calls k c.take.new.held.items c.args.worker (Some c.in-Some.mark) c.in-Some.ensures.taken in (
      c.in-Some.mark,
      held_taken (kept_of c.self.inside) start calls k c.take.new.held.items c.args.worker (Some c.in-Some.mark) c.in-Some.ensures.taken,
      committed_is start (Finished c.args.worker ∷ calls) c.in-Some.mark c.next_commit-next.result c.if-next-mark.false (c.next_commit-next.ensures start (Finished c.args.worker ∷ calls) now),
    )

pub returns-else-next-mark-clause-finished : goal.returns-else-next-mark-clause-finished
returns-else-next-mark-clause-finished c = λ start calls h.
    let k = subst (λ (v : Kept). StandsFor v start calls) (sym c.self.view_is) h in
    finished_taken (kept_of c.self.inside) start calls k c.take.new.held.items c.args.worker (Some c.in-Some.mark) c.in-Some.ensures.taken
