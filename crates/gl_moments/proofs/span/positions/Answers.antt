use Rattle.std.proofs.Common.{◌==◌, ◌∙◌}
use Rattle.gl_moments.specs.Minutes.{is_near}
use Rattle.gl_moments.proofs.Sorting.{sorted_is}
use Rattle.gl_moments.proofs.span.positions.Goals as goal

pub returns : goal.returns
returns c = λ rows h.
    c.from_vec.ensures
    ∙ sorted_is (is_near c.args.from c.args.to) rows _ _ h.rising c.sort.ensures.permutation c.in_ok-sort.ensures.sorted
    (λ n. c.in_ok-found.ensures rows (λ x. n == x) h)
