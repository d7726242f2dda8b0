use Rattle.std.proofs.Common.{◌++◌, [], ◌∷◌, List, ℕ, length, sym, ◌∙◌, ap, subst, arith}
use Rattle.std.specs.List.{sum}
use Rattle.gl_indexset.specs.Ranks.{AreSums, counts_of}
use Rattle.gl_indexset.proofs.Ranking.{bears_more, length_paired, still_first, sum_paired}
use Rattle.gl_indexset.proofs.ranks.Ranks.of.Goals as goal

pub loop-alloc-smaller : goal.loop-alloc-smaller
loop-alloc-smaller c =
    omega (arith, ap (λ (l : List ℕ). length l) c.in_ok-sums.ensures, length_paired c.loop-alloc.counts, c.loop-alloc-test.true, c.len.ensures)

pub loop-alloc-preserved : goal.loop-alloc-preserved
loop-alloc-preserved c =
    let levels = c.loop-alloc.levels.items in
    let counts = c.loop-alloc.counts in
    let sums = c.in_ok-sums.sums in
    record {
      bears = λ above h. subst (λ (l : List (List ℕ)). AreSums (l ++ sums ∷ above)) (sym c.in_ok-push.ensures.items)
          (bears_more levels counts sums c.loop-alloc.invariant.bears c.in_ok-sums.ensures above h);
      first = ap (λ (l : List (List ℕ)). counts_of (l ++ sums ∷ [])) c.in_ok-push.ensures.items ∙ still_first levels counts sums ∙ c.loop-alloc.invariant.first;
      fits = omega (arith, ap (λ (l : List ℕ). sum l) c.in_ok-sums.ensures, sum_paired counts, c.loop-alloc.invariant.fits);
    }
