use Rattle.std.proofs.Common.{sym, ◌∙◌}
use Rattle.gl_lookup.proofs.Pairs.{pairs_same, same_pairs}
use Rattle.gl_lookup.proofs.table.are_same.Goals as goal

pub returns : goal.returns
returns c = (
  (λ same. pairs_same c.args.values.now.entries c.args.others.now.entries (sym c.eq.ensures ∙ same)),
  (λ e. c.eq.ensures ∙ same_pairs c.args.values.now.entries c.args.others.now.entries e),
)
