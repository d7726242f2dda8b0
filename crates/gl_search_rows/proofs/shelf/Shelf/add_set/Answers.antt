use Rattle.std.proofs.Common.{arith}
use Rattle.gl_indexset.specs.Retention.{with_rule}
use Rattle.gl_search_rows.proofs.shelf.Shelf.add_set.Goals as goal

pub invariant_of-self-2 : goal.invariant_of-self-2
invariant_of-self-2 c =
    let kept = c.self.invariant in
    (with_rule c.args.rule kept.0, kept.1, c.in_ok-add_set.ensures.ok kept.0 kept.1 kept.2, omega (arith, kept.3, c.add_set.ensures.next))
