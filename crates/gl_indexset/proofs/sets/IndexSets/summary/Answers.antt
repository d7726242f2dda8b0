use Rattle.std.proofs.Common.{◌≡◌, List, sym, subst}
use Rattle.std.specs.Prelude.{IfOk}
use Rattle.std.specs.List.{flat_map}
use Rattle.gl_indexset.specs.Inside.{kept_of}
use Rattle.gl_indexset.specs.Kept.{Kept, StandsFor, rules_of}
use Rattle.gl_indexset.specs.SetKept.{SetKept, indexes_kept}
use Rattle.gl_indexset.specs.Summary.{summary_of}
use Rattle.gl_indexset.proofs.Listing.{summarized}
use Rattle.gl_indexset.proofs.sets.IndexSets.summary.Goals as goal

pub returns : goal.returns
returns c = λ all stands.
    let kept = kept_of c.self.inside in
    subst (λ (v : Kept). IfOk c.list_all.result (λ found. found ≡ summary_of (rules_of v) all)) c.self.view_is
    (summarized kept c.self.invariant all (subst (λ (v : Kept). StandsFor v all) (sym c.self.view_is) stands) c.list_all.result
    (subst (λ (l : List SetKept). IfOk c.list_all.result (λ found. found ≡ flat_map indexes_kept l)) c.as_slice.ensures.value c.list_all.ensures))
