-- By time where there are fewer rows, and else as was given.
use Rattle.std.proofs.Common.{◌≡◌, ◌+◌, ◌≤◌, List, length, sym, subst, ap, ◌∙◌}
use Rattle.std.specs.Result.{IfOk}
use Rattle.gl_indexset.specs.Counting.{live_in, steps_in}
use Rattle.gl_pages.specs.declared.hits.Hit.{Hit}
use Rattle.gl_postings.proofs.Candidates.{time_is_less, time_is_no_less}
use Rattle.gl_postings.proofs.finding.find_among.Goals as goal

pub returns-then-fewer_between-clause-hits : goal.returns-then-fewer_between-clause-hits
returns-then-fewer_between-clause-hits g c = λ t some q all same are. c.find_near.ensures.hits t q

pub returns-then-fewer_between-clause-steps : goal.returns-then-fewer_between-clause-steps
returns-then-fewer_between-clause-steps g c =
    let live = live_in c.args.rows.now in
    subst (λ n. steps_in c.find_near.new.rows ≤ steps_in c.args.rows.now + n)
    (sym (time_is_less c.args.ask.now live (length c.args.given.now) c.fewer_between.result (c.fewer_between.ensures live c.requires.moments) c.if-fewer_between.true)) c.find_near.ensures.steps

pub returns-clause-hits : goal.returns-clause-hits
returns-clause-hits g c = λ t some q all same are.
    subst (λ (hs : List Hit). IfOk c.find_at.result (λ hits. hits ≡ hs)) same (c.find_at.ensures.hits t some q all are)

pub returns-clause-steps : goal.returns-clause-steps
returns-clause-steps g c =
    let live = live_in c.args.rows.now in
    subst (λ n. steps_in c.find_at.new.rows ≤ steps_in c.args.rows.now + n)
    (sym (time_is_no_less c.args.ask.now live (length c.args.given.now) c.fewer_between.result (c.fewer_between.ensures live c.requires.moments) c.if-fewer_between.false)) c.find_at.ensures.steps
