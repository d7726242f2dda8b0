use Rattle.std.proofs.Common.{sym, ap, ◌∙◌, length, get_or, arith}
use Rattle.gl_functions.specs.Worlds.{known_of}
use Rattle.gl_eval.specs.Actions.{acted}
use Rattle.gl_stage.proofs.Walking.{acted_more, acted_past, put_back}
use Rattle.gl_stage.proofs.book.act_all.Goals as goal
use Rattle.gl_stage.proofs.book.act_all.Goals.{then-place-rules+in_ok-rule_acts, else-place-rules}

pub loop-place-preserved : goal.loop-place-preserved
loop-place-preserved c =
    let l = c.loop-place in
    let places = c.args.places.now in
    let book = c.args.rules.now in
    elim c.if-place-rules.branch [
      | then-place-rules+in_ok-rule_acts w ↦ record {
        acted =
            w.message-is
            ∙ w.in_ok-rule_acts.ensures.done
            ∙ ap (λ k. acted (known_of c.args.world.now) k.0 l.message) (sym w.index-rules-place.is)
            ∙ acted_more (known_of c.args.world.now) book c.args.message.now places l.place-index w.index-rules-place.result l.message c.loop-place-test.true
            (omega (arith, w.if-place-rules.true, ap length l.invariant.same))
            (w.index-rules-place.is ∙ ap (λ b. get_or b (get_or places l.place-index 0) w.index-rules-place.result) l.invariant.same)
            l.invariant.acted;
        same = w.rules-is ∙ put_back book l.rules (get_or places l.place-index 0) w.index-rules-place.result w.rule_acts.new.kept l.invariant.same w.index-rules-place.is (w.in_ok-rule_acts.ensures.same ∙ sym w.index-rules-place.is);
      }
      | else-place-rules w ↦ record {
        acted =
            w.message-is
            ∙ acted_past (known_of c.args.world.now) book c.args.message.now places l.place-index l.message c.loop-place-test.true
            (omega (arith, w.if-place-rules.false, ap length l.invariant.same))
            l.invariant.acted;
        same = w.rules-is ∙ l.invariant.same;
      }
    ]
