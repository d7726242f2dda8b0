use Rattle.std.proofs.Common.{sym, subst}
use Rattle.gl_pool.specs.Inside.{kept_of}
use Rattle.gl_pool.specs.Kept.{Kept, StandsFor}
use Rattle.gl_pool.proofs.Standing.{next_is}
use Rattle.gl_pool.proofs.pool.Pool.next_commit.Goals as goal

pub returns : goal.returns
returns c = λ start calls h.
    let k = subst (λ (v : Kept). StandsFor v start calls) (sym c.self.view_is) h in
    rw (c.first_claimed.ensures, c.as_slice-2.ensures.value, c.first_open-free.ensures, c.as_slice.ensures.value) (next_is (kept_of c.self.inside) start calls k)
