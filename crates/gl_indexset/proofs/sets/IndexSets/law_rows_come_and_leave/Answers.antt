use Rattle.std.proofs.Common.{◌≤◌, ◌∷◌, sym, subst}
use Rattle.gl_indexset.specs.Inside.{kept_of}
use Rattle.gl_indexset.specs.Kept.{Kept, StandsFor, rules_of}
use Rattle.gl_indexset.specs.Leaving.{IsGoneOn}
use Rattle.gl_indexset.specs.Retention.{live_rows}
use Rattle.gl_indexset.proofs.Coming.{gone_on}
use Rattle.gl_indexset.proofs.sets.IndexSets.law_rows_come_and_leave.Goals as goal

pub returns : goal.returns
returns c = λ all stands.
    let row = c.args.row.now in
    subst (λ (v : Kept). IsGoneOn (rules_of v) row (live_rows (rules_of v) all) (live_rows (rules_of v) (row ∷ all))) c.self.view_is
    (gone_on (kept_of c.self.inside) row c.self.invariant (subst (λ (v : Kept). v.next ≤ row.position) (sym c.self.view_is) c.requires) all
    (subst (λ (v : Kept). StandsFor v all) (sym c.self.view_is) stands))
