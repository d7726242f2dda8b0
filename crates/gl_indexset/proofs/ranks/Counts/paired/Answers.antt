use Rattle.std.proofs.Common.{◌+◌, ◌<◌, ◌≡◌, ◌++◌, [], ◌∷◌, List, ℕ, length, get_or, take, sym, ◌∙◌, ap, arith, take_all}
use Rattle.std.proofs.lemmas.List.{take_more}
use Rattle.gl_indexset.specs.Ranks.{paired}
use Rattle.gl_indexset.proofs.Ranking.{length_paired, pair_fits, pair_next}
use Rattle.gl_indexset.proofs.ranks.Counts.paired.Goals as goal

pub overflow_add-get : goal.overflow_add-get
overflow_add-get c = omega (arith, pair_fits c.args.self.now c.loop-at.at, c.get.ensures, c.get-in-loop-at.ensures, c.requires)

pub loop-at-preserved : goal.loop-at-preserved
loop-at-preserved c =
    let counts = c.args.self.now in
    let at = c.loop-at.at in
    let lt : at < length (paired counts) = omega (arith, c.loop-at-test.true, c.len.ensures, c.len-2.ensures, length_paired counts) in
    let pair : c.get.result + c.get-in-loop-at.result ≡ get_or (paired counts) at 0 = omega (arith, c.get.ensures, c.get-in-loop-at.ensures, pair_next counts at) in
    c.in_ok-push.ensures.items
    ∙ ap (λ (l : List ℕ). l ++ (c.get.result + c.get-in-loop-at.result) ∷ []) c.loop-at.invariant
    ∙ ap (λ n. take at (paired counts) ++ n ∷ []) pair
    ∙ sym (take_more (paired counts) at 0 lt)

pub returns : goal.returns
returns c = c.loop-at.invariant ∙ take_all c.loop-at.at (paired c.args.self.now) (omega (arith, c.loop-at-test.false, c.len.ensures, c.len-2.ensures, length_paired c.args.self.now))
