-- One row more.
use Rattle.std.proofs.Common.{◌≡◌, ◌<◌, ◌∷◌, [], ◌++◌, length, get_or, refl, sym, ◌∙◌, ap, arith}
use Rattle.std.proofs.lemmas.Option.{get_or_from_slice_get}
use Rattle.gl_indexset.specs.declared.row.Row.{Row}
use Rattle.gl_indexset.specs.Counting.{live_in}
use Rattle.gl_postings.specs.Found.{hits_of}
use Rattle.gl_postings.proofs.Candidates.{blank, found_more}
use Rattle.gl_postings.proofs.Paging.{hits_none}
use Rattle.gl_postings.proofs.finding.find_all.Goals as goal

pub loop-n-init : goal.loop-n-init
loop-n-init g c = record {
  live = refl;
  counter = refl;
  steps = omega arith;
  found = λ t q. c.new-hits.ensures ∙ sym (hits_none c.args.ask.now t);
}

pub loop-n-preserved : goal.loop-n-preserved
loop-n-preserved g c =
    let rows = live_in c.args.rows.now in
    let lt : c.loop-n.n < length rows = omega (arith, c.loop-n-test.true, c.live_len-n-end.ensures) in
    let here : get_or rows c.loop-n.n blank ≡ c.row-row.result.now
    = ap (λ xs. get_or xs c.loop-n.n blank) (sym c.loop-n.invariant.live) ∙ get_or_from_slice_get (live_in c.loop-n.rows) c.loop-n.n c.row-row.result.now blank c.row-row.ensures.row in
    record {
      live = c.row-row.ensures.rows ∙ c.loop-n.invariant.live;
      counter = c.row-row.ensures.counter ∙ c.loop-n.invariant.counter;
      steps = omega (arith, c.row-row.ensures.steps, c.loop-n.invariant.steps);
      found = λ t q. found_more c.args.ask.now t rows c.loop-n.n c.loop-n.hits c.meet.new.hits lt (c.loop-n.invariant.found t q)
          (c.in_ok-meet.ensures t q ∙ ap (λ (row : Row). c.loop-n.hits ++ hits_of c.args.ask.now t (row ∷ [])) (sym here));
    }
