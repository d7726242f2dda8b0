-- One row that is put in.
use Rattle.std.proofs.Common.{◌≡◌, ℕ, zero, suc, ◌<◌, List, [], ◌∷◌, All, sym, subst, arith}
use Rattle.gl_indexset.specs.declared.row.Row.{Row}

pub one_below : (more : List Row) (row : Row) (limit : ℕ) → more ≡ row ∷ [] → row.position < limit → All (λ (other : Row). other.position < limit) more
one_below more row limit is below = subst (All (λ (other : Row). other.position < limit)) (sym is) alone
  where
    alone : All (λ (other : Row). other.position < limit) (row ∷ [])
    alone zero d lt = below
    alone (suc k) d lt = absurd (omega (arith, lt))
