-- By time where there are fewer rows, and else all.
use Rattle.std.proofs.Common.{◌≡◌, ◌+◌, ◌≤◌, nat_lt, length, sym, subst, ap, ◌∙◌}
use Rattle.gl_indexset.specs.Counting.{live_in, steps_in}
use Rattle.gl_moments.specs.Minutes.{near}
use Rattle.gl_postings.proofs.Candidates.{time_is_less, time_is_no_less}
use Rattle.gl_postings.proofs.finding.find_in_time.Goals as goal

pub returns-then-fewer_between-clause-steps : goal.returns-then-fewer_between-clause-steps
returns-then-fewer_between-clause-steps g c =
    let live = live_in c.args.rows.now in
    subst (λ n. steps_in c.find_near.new.rows ≤ steps_in c.args.rows.now + n)
    (sym (time_is_less c.args.ask.now live (length live) c.fewer_between.result (c.fewer_between.ensures live c.requires.moments ∙ ap (nat_lt (length (near c.args.ask.now.from c.args.ask.now.to live))) c.live_len.ensures) c.if-fewer_between.true)) c.find_near.ensures.steps

pub returns-clause-steps : goal.returns-clause-steps
returns-clause-steps g c =
    let live = live_in c.args.rows.now in
    subst (λ n. steps_in c.find_all.new.rows ≤ steps_in c.args.rows.now + n)
    (sym (time_is_no_less c.args.ask.now live (length live) c.fewer_between.result (c.fewer_between.ensures live c.requires.moments ∙ ap (nat_lt (length (near c.args.ask.now.from c.args.ask.now.to live))) c.live_len.ensures) c.if-fewer_between.false)) c.find_all.ensures.steps
