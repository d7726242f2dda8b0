use Rattle.std.proofs.Common.{◌<◌, ◌≡◌, List, ℕ, Some, length, set, refl, sym, ◌∙◌, ap, subst, arith}
use Rattle.std.specs.List.{slice_get}
use Rattle.std.proofs.lemmas.Option.{slice_get_read}
use Rattle.gl_indexset.specs.Ranks.{AreSums}
use Rattle.gl_indexset.proofs.Ranking.{all_levels, long_now, less, next_levels, next_rest, lower_up, lowered_sums}
use Rattle.gl_indexset.proofs.ranks.lower_each.Goals as goal

pub loop-level-preserved : goal.loop-level-preserved
loop-level-preserved c =
    let init = c.args.levels.now.items in
    let now = c.loop-level.levels.items in
    let k = c.loop-level.level in
    let place = c.loop-level.place in
    let lt : k < length init = omega (arith, c.loop-level-test.true, c.len-level-end.ensures, c.args.levels.now.ok.0) in
    let counts = c.index_mut.result.now in
    let here : slice_get now k ≡ Some counts = slice_get_read now (length now) k counts refl (omega (arith, lt, long_now less c.args.at place init now k lt c.loop-level.invariant.levels c.loop-level.invariant.rest)) c.index_mut.ensures.value in
    record {
      levels = ap (λ (l : List ℕ). set now k l) c.lower.ensures ∙ next_levels less c.args.at place init now k lt c.loop-level.invariant.levels c.loop-level.invariant.rest counts here;
      rest = next_rest less c.args.at place init now k lt c.loop-level.invariant.levels c.loop-level.invariant.rest;
      fine = λ more_levels. lower_up init c.requires.sums k place lt (c.loop-level.invariant.fine lt) more_levels;
    }

pub returns-clause-sums : goal.returns-clause-sums
returns-clause-sums c = subst (λ (l : List (List ℕ)). AreSums l)
    (sym (c.loop-level.invariant.levels ∙ all_levels less c.args.at c.args.levels.now.items c.loop-level.level (omega (arith, c.loop-level-test.false, c.len-level-end.ensures, c.args.levels.now.ok.0))))
    (lowered_sums c.args.levels.now.items c.args.at c.requires.sums c.requires.some)
