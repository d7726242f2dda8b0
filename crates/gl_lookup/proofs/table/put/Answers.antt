use Rattle.std.proofs.Common.{ap, ◌∙◌, map}
use Rattle.gl_lookup.specs.Tables.{pairs_of, with_pair}
use Rattle.gl_lookup.proofs.Pairs.{pair, pairs_put, is_table}
use Rattle.gl_lookup.proofs.table.put.Goals as goal

pub returns-clause-pairs : goal.returns-clause-pairs
returns-clause-pairs c =
    let key = c.in_ok-key.ensures.ok ∙ c.cell.ensures in
    let value = c.in_ok-value.ensures.ok ∙ c.cell-2.ensures in
    ap (map pair) c.in_ok-insert.ensures.entries ∙ pairs_put c.args.values.now.entries c.in_ok-key.key c.in_ok-value.value
    ∙ (λ i. with_pair (pairs_of c.args.values.now) (key i, value i))

pub returns-clause-ordered : goal.returns-clause-ordered
returns-clause-ordered c = is_table c.insert.new.self.entries c.in_ok-insert.ensures.ordered
