use Rattle.std.proofs.Common.{◌≡◌, ℕ, ◌-◌, true, false, List, ◌∙◌, ap, sym, subst, arith}
use Rattle.gl_pool.specs.declared.span.Span.{Span}
use Rattle.gl_pool.specs.Claims.{IsFreeRun}
use Rattle.gl_pool.specs.Inside.{kept_of}
use Rattle.gl_pool.specs.Kept.{Kept, StandsFor, is_open}
use Rattle.gl_pool.proofs.Spans.{least_open}
use Rattle.gl_pool.proofs.Standing.{free_run_is, none_free}
use Rattle.gl_pool.proofs.pool.Pool.free.Goals as goal

pub returns-then-first-journal-clause-run : goal.returns-then-first-journal-clause-run
returns-then-first-journal-clause-run c = λ start calls h p lt.
    let k = subst (λ (v : Kept). StandsFor v start calls) (sym c.self.view_is) h in
    let first : c.first_open-first.result ≡ least_open c.self.inside.frontier c.self.inside.spans.items
    = c.first_open-first.ensures ∙ ap (λ (l : List Span). least_open c.self.inside.frontier l) c.as_slice.ensures.value in
    none_free (kept_of c.self.inside) start calls k c.args.journal (omega arith) p lt

pub returns-clause-run : goal.returns-clause-run
returns-clause-run c = λ start calls h.
    let k = subst (λ (v : Kept). StandsFor v start calls) (sym c.self.view_is) h in
    let first : c.first_open-first.result ≡ least_open c.self.inside.frontier c.self.inside.spans.items
    = c.first_open-first.ensures ∙ ap (λ (l : List Span). least_open c.self.inside.frontier l) c.as_slice.ensures.value in
    subst (λ (n : ℕ). IsFreeRun start calls c.args.journal (record { first = n; count = c.run_end-end.result - n })) (sym first)
    (free_run_is (kept_of c.self.inside) start calls k c.args.journal c.run_end-end.result (omega arith) (omega arith) c.run_end-end.ensures.within
    (λ p low high. subst (λ (l : List Span). is_open c.self.inside.frontier l p ≡ true) c.as_slice-2.ensures.value (c.run_end-end.ensures.free p (omega arith) high))
    (λ more. subst (λ (l : List Span). is_open c.self.inside.frontier l c.run_end-end.result ≡ false) c.as_slice-2.ensures.value (c.run_end-end.ensures.whole more)))
