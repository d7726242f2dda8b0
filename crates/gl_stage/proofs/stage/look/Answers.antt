use Rattle.std.proofs.Common.{◌≡◌, ℕ, List, Some, None, Bor, sym, ap, ◌∙◌}
use Rattle.std.proofs.lemmas.List.{map-append}
use Rattle.gl_functions.specs.Worlds.{known_of}
use Rattle.gl_stage.specs.Stages.{reached}
use Rattle.gl_stage.specs.Books.{rules_at}
use Rattle.gl_stage.specs.Lent.{names_now, moving_of}
use Rattle.gl_stage.proofs.Looking.{past_held, past_stops, look_holds, look_stops, look_passes}
use Rattle.gl_stage.proofs.stage.look.Goals as goal
use Rattle.gl_stage.proofs.stage.look.Goals.{then-branch+in_ok-push, else-branch}

pub loop-pipeline-preserved-in_default : goal.loop-pipeline-preserved-in_default
loop-pipeline-preserved-in_default c =
    let l = c.loop-pipeline in
    let world = known_of c.args.world.now in
    let book = c.args.rules.now in
    let m = moving_of c.args.moving.now in
    let b = c.pipeline-item.result in
    let none : None ≡ reached c.args.n m.stopped b.now = c.in_default.ensures ∙ ap (λ names. reached c.args.n (names_now names) b.now) c.as_slice.ensures.value in
    record {
      holding = l.invariant.holding ∙ sym (past_held world book book c.args.n m c.args.round.now l.pipeline-index b b.now c.loop-pipeline-test.true (ap (λ lent. lent.now) c.pipeline-item.is) none);
      stopping = l.invariant.stopping ∙ sym (past_stops world book book c.args.n m c.args.round.now l.pipeline-index b b.now c.loop-pipeline-test.true (ap (λ lent. lent.now) c.pipeline-item.is) none);
      same = l.invariant.same;
    }

pub loop-pipeline-preserved : goal.loop-pipeline-preserved
loop-pipeline-preserved c =
    let l = c.loop-pipeline in
    let world = known_of c.args.world.now in
    let book = c.args.rules.now in
    let m = moving_of c.args.moving.now in
    let b = c.pipeline-item.result in
    let at = ap (λ lent. lent.now) c.pipeline-item.is in
    let there : Some c.in-Some.stage.now ≡ reached c.args.n m.stopped b.now = c.in-Some.ensures ∙ ap (λ names. reached c.args.n (names_now names) b.now) c.as_slice.ensures.value in
    elim c.if-branch.branch [
      | then-branch+in_ok-push w ↦ record {
        holding =
            ap (λ looked. rules_at book looked.held.items) w.looked-is
            ∙ look_holds world book l.rules c.args.n m c.args.round.now l.pipeline-index b b.now c.loop-pipeline-test.true at c.in-Some.stage.now l.invariant.same there
            l.looked.held.items c.look_at.new.held.items l.invariant.holding c.in_ok-look_at.ensures.held;
        stopping =
            ap (λ looked. names_now looked.stops.items) w.looked-is
            ∙ look_stops world book l.rules c.args.n m c.args.round.now l.pipeline-index b b.now c.loop-pipeline-test.true at c.in-Some.stage.now l.invariant.same there
            c.in_ok-look_at.field-0 (names_now l.looked.stops.items) (names_now w.push.new.self.items) c.in_ok-look_at.ensures.stops w.if-branch.true l.invariant.stopping
            (ap names_now w.in_ok-push.ensures.items ∙ map-append (λ (x : Bor (List ℕ)). x.now) l.looked.stops.items _);
        same = c.in_ok-look_at.ensures.same ∙ l.invariant.same;
      }
      | else-branch w ↦ record {
        holding =
            ap (λ looked. rules_at book looked.held.items) w.looked-is
            ∙ look_holds world book l.rules c.args.n m c.args.round.now l.pipeline-index b b.now c.loop-pipeline-test.true at c.in-Some.stage.now l.invariant.same there
            l.looked.held.items c.look_at.new.held.items l.invariant.holding c.in_ok-look_at.ensures.held;
        stopping =
            ap (λ looked. names_now looked.stops.items) w.looked-is
            ∙ look_passes world book l.rules c.args.n m c.args.round.now l.pipeline-index b b.now c.loop-pipeline-test.true at c.in-Some.stage.now l.invariant.same there
            c.in_ok-look_at.field-0 (names_now l.looked.stops.items) c.in_ok-look_at.ensures.stops w.if-branch.false l.invariant.stopping;
        same = c.in_ok-look_at.ensures.same ∙ l.invariant.same;
      }
    ]
