-- The row at the position is the one that is meant.
use Rattle.std.proofs.Common.{◌≡◌, [], ◌∷◌, ◌++◌, ◌∙◌, subst}
use Rattle.std.specs.Result.{OnOk}
use Rattle.gl_indexset.specs.declared.row.Row.{Row}
use Rattle.gl_indexset.specs.Counting.{live_in}
use Rattle.gl_postings.specs.Found.{hits_of}
use Rattle.gl_postings.proofs.Candidates.{no_such, same_row}
use Rattle.gl_postings.proofs.finding.meet_at.Goals as goal

pub returns-in-Some-clause-hits : goal.returns-in-Some-clause-hits
returns-in-Some-clause-hits g c = λ t row q has same.
    let is : c.in-Some.row.now ≡ row = same_row (live_in c.args.rows.now) c.in-Some.row.now row c.requires c.in-Some.ensures.row.1 has (c.in-Some.ensures.row.0 ∙ same) in
    subst (λ (r : Row). OnOk c.meet.result (c.meet.new.hits ≡ c.args.hits.now ++ hits_of c.args.ask.now t (r ∷ []))) is (c.meet.ensures t q)

pub returns-in-None-clause-hits : goal.returns-in-None-clause-hits
returns-in-None-clause-hits g c = λ t row q has same. absurd (no_such (live_in c.args.rows.now) row c.args.position has same c.in-None.ensures.row)
