use Rattle.std.proofs.Common.{◌≡◌, ◌+◌, ◌-◌, ◌<◌, [], List, ℕ, get_or, take, sym, ◌∙◌, ap, subst, arith}
use Rattle.std.specs.List.{sum}
use Rattle.gl_indexset.specs.Ranks.{paired}
use Rattle.gl_indexset.proofs.Ranking.{level_is, level_under, some_level, under_top}
use Rattle.gl_indexset.proofs.ranks.place_of.Goals as goal

pub loop-level-init : goal.loop-level-init
loop-level-init c = record {
  within = omega (arith, some_level c.args.levels.now c.args.n c.requires.counted);
  before = omega arith;
  here = under_top c.args.levels.now c.requires.sums c.args.n c.requires.counted;
}

pub half-lower-requires : goal.half-lower-requires
half-lower-requires c =
    let levels = c.args.levels.now in
    let k = c.loop-level.level in
    let counts = c.index-levels-level.result in
    let under : get_or levels k [] ≡ paired counts = level_under levels c.requires.sums k c.loop-level-test.true c.loop-level.invariant.within
    ∙ ap (λ (l : List ℕ). paired l) (level_is levels (k - 1) counts (omega (arith, c.loop-level.invariant.within, c.loop-level-test.true)) c.index-levels-level.is) in
    subst (λ (l : List ℕ). c.loop-level.rest < get_or l c.loop-level.at 0) under c.loop-level.invariant.here

pub loop-level-preserved : goal.loop-level-preserved
loop-level-preserved c =
    let levels = c.args.levels.now in
    let k = c.loop-level.level in
    let counts = c.index-levels-level.result in
    let is : get_or levels (k - 1) [] ≡ counts = level_is levels (k - 1) counts (omega (arith, c.loop-level.invariant.within, c.loop-level-test.true)) c.index-levels-level.is in
    let under : get_or levels k [] ≡ paired counts = level_under levels c.requires.sums k c.loop-level-test.true c.loop-level.invariant.within
    ∙ ap (λ (l : List ℕ). paired l) is in
    record {
      within = omega (arith, c.loop-level.invariant.within);
      before = ap (λ (l : List ℕ). sum (take c.half-lower.result.0 l) + c.half-lower.result.1) is
          ∙ c.half-lower.ensures.before
          ∙ ap (λ (l : List ℕ). sum (take c.loop-level.at l) + c.loop-level.rest) (sym under)
          ∙ c.loop-level.invariant.before;
      here = subst (λ (l : List ℕ). c.half-lower.result.1 < get_or l c.half-lower.result.0 0) (sym is) c.half-lower.ensures.there;
    }
