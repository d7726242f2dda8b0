use Rattle.std.proofs.Common.{sym, ◌∙◌}
use Rattle.gl_lookup.proofs.Pairs.{pairs_same, same_pairs}
use Rattle.gl_history.proofs.same.same_groks.Goals as goal

pub returns : goal.returns
returns c = (
  (λ same. sym c.groks.ensures ∙ pairs_same c.groks.result.now.entries c.groks-2.result.now.entries (sym c.eq.ensures ∙ same) ∙ c.groks-2.ensures),
  (λ e. c.eq.ensures ∙ same_pairs c.groks.result.now.entries c.groks-2.result.now.entries (c.groks.ensures ∙ e ∙ sym c.groks-2.ensures)),
)
