-- What is found in the minutes is all that is found.
use Rattle.std.proofs.Common.{◌≡◌, ◌+◌, ◌≤◌, List, length, sym, subst, ap, ◌∙◌}
use Rattle.std.specs.Result.{IfOk}
use Rattle.gl_indexset.specs.Counting.{live_in, steps_in}
use Rattle.gl_moments.specs.Minutes.{near}
use Rattle.gl_pages.specs.declared.hits.Hit.{Hit}
use Rattle.gl_postings.proofs.Candidates.{found_near, length_of_near, near_there}
use Rattle.gl_postings.proofs.finding.find_near.Goals as goal

pub returns-clause-hits : goal.returns-clause-hits
returns-clause-hits g c = λ t q.
    let live = live_in c.args.rows.now in
    let from = c.args.ask.now.from in
    let to = c.args.ask.now.to in
    subst (λ (hs : List Hit). IfOk c.find_at.result (λ hits. hits ≡ hs)) (found_near c.law_near.ensures c.args.ask.now t live)
    (c.find_at.ensures.hits t (near from to live) q (near_there live from to) (c.as_slice.ensures ∙ c.in_ok-given.ensures live c.requires.moments))

pub returns-clause-steps : goal.returns-clause-steps
returns-clause-steps g c =
    let live = live_in c.args.rows.now in
    let some = near c.args.ask.now.from c.args.ask.now.to live in
    subst (λ n. steps_in c.find_at.new.rows ≤ steps_in c.args.rows.now + n) (length_of_near c.as_slice.result.now some (c.as_slice.ensures ∙ c.in_ok-given.ensures live c.requires.moments)) c.find_at.ensures.steps
