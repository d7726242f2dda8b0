-- One position more.
use Rattle.std.proofs.Common.{◌<◌, ◌≤◌, List, length, get_or, refl, sym, ◌∙◌, ap, subst, arith}
use Rattle.std.specs.List.{Contains}
use Rattle.std.proofs.lemmas.List.{take_all}
use Rattle.std.proofs.lemmas.List.Elements.{All-get_or}
use Rattle.gl_indexset.specs.declared.row.Row.{Row}
use Rattle.gl_indexset.specs.Counting.{live_in}
use Rattle.gl_postings.specs.Found.{hits_of}
use Rattle.gl_postings.proofs.Candidates.{blank, found_more, length_given, position_given}
use Rattle.gl_postings.proofs.Paging.{hits_none}
use Rattle.gl_postings.proofs.finding.find_at.Goals as goal

pub loop-position-init : goal.loop-position-init
loop-position-init g c = record {
  live = refl;
  counter = refl;
  steps = omega arith;
  found = λ t some q all are. c.new-hits.ensures ∙ sym (hits_none c.args.ask.now t);
}

pub loop-position-preserved : goal.loop-position-preserved
loop-position-preserved g c =
    let k = c.loop-position.position-index in
    let lt : k < length c.args.given.now = omega arith in
    record {
      live = c.meet_at.ensures.rows ∙ c.loop-position.invariant.live;
      counter = c.meet_at.ensures.counter ∙ c.loop-position.invariant.counter;
      steps = omega (arith, c.meet_at.ensures.steps, c.loop-position.invariant.steps);
      found = λ t some q all are.
          let less : k < length some = omega (arith, lt, length_given c.args.given.now some are) in
          found_more c.args.ask.now t some k c.loop-position.hits c.meet_at.new.hits less (c.loop-position.invariant.found t some q all are)
          (c.in_ok-meet_at.ensures.hits t (get_or some k blank) q
          (subst (λ (rows : List Row). Contains rows (get_or some k blank)) (sym c.loop-position.invariant.live) (All-get_or (Contains (live_in c.args.rows.now)) some k blank less all))
          (position_given c.args.given.now some k lt are));
    }

pub returns-clause-hits : goal.returns-clause-hits
returns-clause-hits g c = λ t some q all are.
    let past : length c.args.given.now ≤ c.loop-position.position-index = omega arith in
    let whole : length some ≤ c.loop-position.position-index = omega (arith, past, length_given c.args.given.now some are) in
    c.loop-position.invariant.found t some q all are ∙ ap (hits_of c.args.ask.now t) (take_all c.loop-position.position-index some whole)
