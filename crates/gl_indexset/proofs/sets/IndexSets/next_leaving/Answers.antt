use Rattle.std.proofs.Common.{◌<◌, ◌≤◌, ◌∷◌, List, length, map, sym, subst}
use Rattle.std.specs.Prelude.{IfSome}
use Rattle.gl_indexset.specs.Inside.{kept_of}
use Rattle.gl_indexset.specs.Kept.{Kept, StandsFor, rules_of}
use Rattle.gl_indexset.specs.Leaving.{IsNextFailing, IsNextLeaving, IsStepOfLeaving}
use Rattle.gl_indexset.proofs.Coming.{step_of_leaving}
use Rattle.gl_indexset.specs.Retention.{live_rows}
use Rattle.gl_indexset.specs.SetKept.{SetKept, goes, is_held}
use Rattle.gl_indexset.proofs.Departing.{leaving, place_within}
use Rattle.gl_indexset.proofs.sets.IndexSets.next_leaving.Goals as goal

pub returns-clause-leaving : goal.returns-clause-leaving
returns-clause-leaving c = λ all stands.
    let kept = kept_of c.self.inside in
    let row = c.args.row.now in
    subst (λ (v : Kept). IsNextLeaving (live_rows (rules_of v) all) (live_rows (rules_of v) (row ∷ all)) c.args.from c.next_unheld.result) c.self.view_is
    (leaving kept row c.self.invariant (subst (λ (v : Kept). v.next ≤ row.position) (sym c.self.view_is) c.requires) all
    (subst (λ (v : Kept). StandsFor v all) (sym c.self.view_is) stands) c.args.from c.next_unheld.result
    (subst (λ (l : List SetKept). IsNextFailing (is_held (map (goes row) l)) kept.rows c.args.from c.next_unheld.result) c.as_slice.ensures.value c.next_unheld.ensures))

pub returns-clause-within : goal.returns-clause-within
returns-clause-within c =
    subst (λ (v : Kept). IfSome c.next_unheld.result (λ n. n < length v.rows)) c.self.view_is
    (place_within (is_held (map (goes c.args.row.now) c.as_slice.result.now)) c.self.inside.rows.rows c.args.from c.next_unheld.result c.next_unheld.ensures)

pub returns-clause-steps : goal.returns-clause-steps
returns-clause-steps c = λ all stands.
    let kept = kept_of c.self.inside in
    let row = c.args.row.now in
    let stood = subst (λ (v : Kept). StandsFor v all) (sym c.self.view_is) stands in
    subst (λ (v : Kept). IsStepOfLeaving (live_rows (rules_of v) (row ∷ all)) v.rows c.args.from c.next_unheld.result) c.self.view_is
    (step_of_leaving kept.rows (live_rows (rules_of kept) (row ∷ all)) c.args.from c.next_unheld.result c.self.invariant.rising
    (subst (λ l. IsNextLeaving l (live_rows (rules_of kept) (row ∷ all)) c.args.from c.next_unheld.result) (sym stood.live)
    (leaving kept row c.self.invariant (subst (λ (v : Kept). v.next ≤ row.position) (sym c.self.view_is) c.requires) all stood c.args.from c.next_unheld.result
    (subst (λ (l : List SetKept). IsNextFailing (is_held (map (goes row) l)) kept.rows c.args.from c.next_unheld.result) c.as_slice.ensures.value c.next_unheld.ensures))))
