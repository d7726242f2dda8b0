-- By the rarest required term, or by none.
use Rattle.std.proofs.Common.{◌≡◌, ◌+◌, ◌≤◌, List, sym, ap, subst}
use Rattle.std.specs.Option.{option_map}
use Rattle.gl_indexset.specs.Counting.{live_in, steps_in}
use Rattle.gl_words.specs.Candidates.{holders}
use Rattle.gl_postings.specs.Bound.{in_time}
use Rattle.gl_postings.proofs.Candidates.{by_none, by_term, found_by_term, holders_there, steps_by_none, steps_by_term}
use Rattle.gl_postings.proofs.finding.find_hits.Goals as goal

pub returns-in-Some-clause-hits : goal.returns-in-Some-clause-hits
returns-in-Some-clause-hits g c = λ t q.
    let live = live_in c.args.rows.now in
    let by = by_term (option_map (λ found. found.now) c.candidates.result) t live c.in-Some.positions.now (c.candidates.ensures live c.requires t q) (ap (option_map (λ found. found.now)) c.in-Some.is) in
    c.find_among.ensures.hits t (holders live by.term) q (holders_there live by.term) (found_by_term c.law_required_terms.ensures c.args.ask.now t live by.term by.is) by.given_are

pub returns-in-Some-clause-bound : goal.returns-in-Some-clause-bound
returns-in-Some-clause-bound g c = λ t q.
    let live = live_in c.args.rows.now in
    let by = by_term (option_map (λ found. found.now) c.candidates.result) t live c.in-Some.positions.now (c.candidates.ensures live c.requires t q) (ap (option_map (λ found. found.now)) c.in-Some.is) in
    subst (λ n. steps_in c.find_among.new.rows ≤ steps_in c.args.rows.now + in_time c.args.ask.now live n) (sym (steps_by_term t live c.in-Some.positions.now by)) c.find_among.ensures.steps

pub returns-in-None-clause-bound : goal.returns-in-None-clause-bound
returns-in-None-clause-bound g c = λ t q.
    let live = live_in c.args.rows.now in
    subst (λ n. steps_in c.find_suspects.new.rows ≤ steps_in c.args.rows.now + in_time c.args.ask.now live n)
    (sym (steps_by_none t live (by_none (option_map (λ found. found.now) c.candidates.result) t live (c.candidates.ensures live c.requires t q) (ap (option_map (λ found. found.now)) c.in-None.is))))
    (c.find_suspects.ensures.bound t q)

pub find_among-requires-clause-rising : goal.find_among-requires-clause-rising
find_among-requires-clause-rising g c = c.requires.rising

pub find_among-requires-clause-moments : goal.find_among-requires-clause-moments
find_among-requires-clause-moments g c = c.requires.moments
