use Rattle.std.proofs.Common.{◌+◌, List, [], ◌∷◌, ◌++◌, ap, ◌∙◌, sym, subst}
use Rattle.gl_pool.specs.declared.mark.Claim.{Claim}
use Rattle.gl_pool.specs.declared.span.Span.{Span}
use Rattle.gl_pool.specs.Inside.{kept_of}
use Rattle.gl_pool.specs.Kept.{Kept, StandsFor}
use Rattle.gl_pool.proofs.Spans.{cut_spans}
use Rattle.gl_pool.proofs.Standing.{stands_claimed}
use Rattle.gl_pool.proofs.pool.Pool.claim.Goals as goal

pub returns-clause-ok : goal.returns-clause-ok
returns-clause-ok c = λ start calls h.
    let k = subst (λ (v : Kept). StandsFor v start calls) (sym c.self.view_is) h in
    let claim : Claim = record { worker = c.args.worker; mark = c.args.mark } in
    stands_claimed (kept_of c.self.inside) start calls k c.args.worker c.args.mark (c.requires.may start calls h) _
    (c.push_reserved.ensures.items ∙ ap (λ (l : List Claim). l ++ claim ∷ []) c.reserve.ensures.items)
    (c.cut.ensures.items ∙ ap (λ (l : List Span). cut_spans (c.args.mark.first + c.args.mark.count) l) c.reserve-2.ensures.items)
    c.max-self-inside.ensures
