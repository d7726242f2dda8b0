use Rattle.std.proofs.Common.{sym, ap, ◌∙◌, get_or}
use Rattle.gl_functions.specs.Worlds.{known_of}
use Rattle.gl_stage.specs.Stages.{at_number}
use Rattle.gl_stage.specs.Books.{Book, scene_of}
use Rattle.gl_stage.specs.Lent.{pipelines_now, moving_of}
use Rattle.gl_stage.proofs.Going.{past_one, past_drop, past_all}
use Rattle.gl_stage.proofs.running.go_through.Goals as goal

pub returns-then-moving-clause-value : goal.returns-then-moving-clause-value
returns-then-moving-clause-value c =
    let l = c.loop-n in
    sym (l.invariant.goes
    ∙ past_drop (scene_of (known_of c.args.world.now) c.args.rules.now) (pipelines_now c.args.round.now) c.as_slice-n-items.result.now l.n-index (moving_of l.moving) c.if-moving.true)

pub loop-n-preserved : goal.loop-n-preserved
loop-n-preserved c =
    let l = c.loop-n in
    let round = pipelines_now c.args.round.now in
    let numbers = c.as_slice-n-items.result.now in
    record {
      goes =
          l.invariant.goes
          ∙ past_one (scene_of (known_of c.args.world.now) c.args.rules.now) round numbers l.n-index (moving_of l.moving) (moving_of c.at_number.new.moving) c.loop-n-test.true c.if-moving.false
          (c.in_ok-at_number.ensures.done ∙ ap (λ (b : Book). at_number (scene_of (known_of c.args.world.now) b) round (get_or numbers l.n-index 0) (moving_of l.moving)) l.invariant.same);
      same = c.in_ok-at_number.ensures.same ∙ l.invariant.same;
    }

pub returns-clause-value : goal.returns-clause-value
returns-clause-value c =
    let l = c.loop-n in
    sym (l.invariant.goes
    ∙ past_all (scene_of (known_of c.args.world.now) c.args.rules.now) (pipelines_now c.args.round.now) c.as_slice-n-items.result.now l.n-index (moving_of l.moving) c.loop-n-test.false)
