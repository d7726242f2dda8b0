use Rattle.std.proofs.Common.{◌≡◌, length, ap, sym, subst, ◌∙◌, rules}
use Rattle.gl_pool.specs.Kept.{Kept, StandsFor}
use Rattle.gl_pool.proofs.pool.Pool.held_count.Goals as goal

pub returns : goal.returns
returns c = λ start calls h.
    let k = subst (λ (v : Kept). StandsFor v start calls) (sym c.self.view_is) h in
    let kept : c.len.result ≡ length c.self.inside.held.items = search rules in
    kept ∙ ap length k.held
