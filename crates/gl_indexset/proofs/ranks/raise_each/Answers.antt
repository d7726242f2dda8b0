use Rattle.std.proofs.Common.{◌<◌, ◌^◌, ◌-◌, ◌≡◌, [], List, ℕ, Some, length, get_or, set, refl, sym, ◌∙◌, ap, subst, arith}
use Rattle.std.specs.List.{slice_get}
use Rattle.std.proofs.lemmas.Option.{slice_get_read}
use Rattle.gl_indexset.specs.Ranks.{AreSums}
use Rattle.gl_indexset.proofs.Ranking.{all_levels, counts_are, long_now, more, next_levels, next_rest, raise_fits, raise_up, raised_sums}
use Rattle.gl_indexset.proofs.ranks.raise_each.Goals as goal

pub raise-requires-clause-fits : goal.raise-requires-clause-fits
raise-requires-clause-fits c =
    let init = c.args.levels.now.items in
    let now = c.loop-level.levels.items in
    let k = c.loop-level.level in
    let lt : k < length init = omega (arith, c.loop-level-test.true, c.len-level-end.ensures, c.args.levels.now.ok.0) in
    let counts = c.index_mut.result.now in
    let here : slice_get now k ≡ Some counts = slice_get_read now (length now) k counts refl (omega (arith, lt, long_now more c.args.at c.loop-level.place init now k lt c.loop-level.invariant.levels c.loop-level.invariant.rest)) c.index_mut.ensures.value in
    let are : get_or init k [] ≡ counts = counts_are more c.args.at c.loop-level.place init now k lt c.loop-level.invariant.levels c.loop-level.invariant.rest counts here in
    subst (λ (l : List ℕ). get_or l c.loop-level.place 0 < 2 ^ 64 - 1) are (raise_fits init c.requires.sums k c.loop-level.place (2 ^ 64 - 1) lt c.requires.fits)

pub loop-level-preserved : goal.loop-level-preserved
loop-level-preserved c =
    let init = c.args.levels.now.items in
    let now = c.loop-level.levels.items in
    let k = c.loop-level.level in
    let place = c.loop-level.place in
    let lt : k < length init = omega (arith, c.loop-level-test.true, c.len-level-end.ensures, c.args.levels.now.ok.0) in
    let counts = c.index_mut.result.now in
    let here : slice_get now k ≡ Some counts = slice_get_read now (length now) k counts refl (omega (arith, lt, long_now more c.args.at place init now k lt c.loop-level.invariant.levels c.loop-level.invariant.rest)) c.index_mut.ensures.value in
    record {
      levels = ap (λ (l : List ℕ). set now k l) c.raise.ensures ∙ next_levels more c.args.at place init now k lt c.loop-level.invariant.levels c.loop-level.invariant.rest counts here;
      rest = next_rest more c.args.at place init now k lt c.loop-level.invariant.levels c.loop-level.invariant.rest;
      fine = λ more_levels. raise_up init c.requires.sums k place lt (c.loop-level.invariant.fine lt) more_levels;
    }

pub returns-clause-sums : goal.returns-clause-sums
returns-clause-sums c = subst (λ (l : List (List ℕ)). AreSums l)
    (sym (c.loop-level.invariant.levels ∙ all_levels more c.args.at c.args.levels.now.items c.loop-level.level (omega (arith, c.loop-level-test.false, c.len-level-end.ensures, c.args.levels.now.ok.0))))
    (raised_sums c.args.levels.now.items c.args.at c.requires.sums c.requires.at)
