-- By the query's cover, or by none.
use Rattle.std.proofs.Common.{◌≡◌, ◌+◌, ◌≤◌, List, sym, subst, ◌∙◌}
use Rattle.gl_indexset.specs.Counting.{live_in, steps_in}
use Rattle.gl_covers.specs.Covers.{covered}
use Rattle.gl_postings.specs.Bound.{in_time}
use Rattle.gl_postings.proofs.Candidates.{by_cover, by_no_cover, covered_there, found_by_cover, steps_by_all, steps_by_terms}
use Rattle.gl_postings.proofs.finding.find_suspects.Goals as goal

pub returns-in-Some-clause-hits : goal.returns-in-Some-clause-hits
returns-in-Some-clause-hits g c = λ t q.
    let live = live_in c.args.rows.now in
    let by = by_cover c.in_ok-positions.field-0 t live c.in-Some.positions (c.in_ok-positions.ensures live t c.requires.words q) c.in-Some.is in
    c.find_among.ensures.hits t (covered live by.terms) q (covered_there live by.terms) (found_by_cover c.law_cover.ensures c.args.ask.now t live by.terms by.is) (c.as_slice.ensures ∙ by.given_are)

pub returns-in-Some-clause-bound : goal.returns-in-Some-clause-bound
returns-in-Some-clause-bound g c = λ t q.
    let live = live_in c.args.rows.now in
    let by = by_cover c.in_ok-positions.field-0 t live c.in-Some.positions (c.in_ok-positions.ensures live t c.requires.words q) c.in-Some.is in
    subst (λ n. steps_in c.find_among.new.rows ≤ steps_in c.args.rows.now + in_time c.args.ask.now live n)
    (sym (steps_by_terms t live c.as_slice.result.now (record { terms = by.terms; is = by.is; given_are = c.as_slice.ensures ∙ by.given_are }))) c.find_among.ensures.steps

pub returns-in-None-clause-bound : goal.returns-in-None-clause-bound
returns-in-None-clause-bound g c = λ t q.
    let live = live_in c.args.rows.now in
    subst (λ n. steps_in c.find_in_time.new.rows ≤ steps_in c.args.rows.now + in_time c.args.ask.now live n)
    (sym (steps_by_all t live (by_no_cover c.in_ok-positions.field-0 t live (c.in_ok-positions.ensures live t c.requires.words q) c.in-None.is))) c.find_in_time.ensures.steps

pub find_among-requires-clause-rising : goal.find_among-requires-clause-rising
find_among-requires-clause-rising g c = c.requires.rising

pub find_among-requires-clause-moments : goal.find_among-requires-clause-moments
find_among-requires-clause-moments g c = c.requires.moments

pub find_in_time-requires-clause-rising : goal.find_in_time-requires-clause-rising
find_in_time-requires-clause-rising g c = c.requires.rising

pub find_in_time-requires-clause-moments : goal.find_in_time-requires-clause-moments
find_in_time-requires-clause-moments g c = c.requires.moments
