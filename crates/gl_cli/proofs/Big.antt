-- A payload that is too large, by a lemma: evaluating a list of 2 ^ 20 bytes needs more stack than the checker has.
use Rattle.std.specs.Prelude.{◌≡◌, ℕ, ◌<◌, List, codes, length}
use Rattle.std.proofs.Common.{refl, arith, inl, inr}
use Rattle.std.proofs.lemmas.Bool.{le-leb}
use Rattle.std.proofs.lemmas.Bool.Decides.{eqb_tells}
use Rattle.gl_node.specs.declared.answer.Arrival.TheVariants.{FrameTooLong}
use Rattle.gl_node.specs.State.{State}
use Rattle.gl_node.specs.Arrivals.{arrival_of}

pub too_long : (s : State) (moment : ℕ) (peer bytes : List ℕ) → 1048576 < length bytes → arrival_of s moment (codes "raw") peer bytes ≡ FrameTooLong
too_long s moment peer bytes h = elim (eqb_tells (length bytes) 0) [
  | inl p ↦ absurd (omega (arith, p.1, h))
  | inr q ↦ rw (q.0, le-leb 1048577 (length bytes) h) refl
]
