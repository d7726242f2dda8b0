use Rattle.std.proofs.Common.{◌+◌, ◌∷◌, sym, ap, ◌∙◌, subst, arith}
use Rattle.gl_query.specs.Evaluation.{Gives}
use Rattle.gl_query.proofs.Evaluating.{none_arm, leaf_arm, negation_arm, both_arm, either_arm, AllSoFar, OneSoFar, all_more, all_done, one_more, one_done}
use Rattle.gl_query.proofs.matching.+evaluate.Goals as goal

pub evaluate-returns-in-None-clause-value : goal.evaluate-returns-in-None-clause-value
evaluate-returns-in-None-clause-value t c = none_arm c.args.fields.now _ c.args.nodes.now c.args.nodes.now c.in-None.ensures.cases

pub evaluate-returns-in-Leaf-clause-value : goal.evaluate-returns-in-Leaf-clause-value
evaluate-returns-in-Leaf-clause-value t c =
    subst (Gives c.args.fields.now c.term_holds.result c.in-Some.rest.now) (sym (c.in-Some.ensures.cases.0 ∙ ap (λ n. n ∷ c.in-Some.rest.now) c.in-Leaf.is))
    (leaf_arm c.args.fields.now c.term_holds.result c.in-Some.rest.now c.in-Leaf.term c.term_holds.ensures)

pub evaluate-returns-in-Negation-clause-value : goal.evaluate-returns-in-Negation-clause-value
evaluate-returns-in-Negation-clause-value t c =
    subst (Gives c.args.fields.now _ c.evaluate-one.result.1.now) (sym (c.in-Some.ensures.cases.0 ∙ ap (λ n. n ∷ c.in-Some.rest.now) c.in-Negation.is))
    (negation_arm c.args.fields.now c.evaluate-one.result.0 c.evaluate-one.result.1.now c.in-Some.rest.now c.evaluate-one.ensures.value)

pub evaluate-returns-in-Both-clause-value : goal.evaluate-returns-in-Both-clause-value
evaluate-returns-in-Both-clause-value t c =
    subst (Gives c.args.fields.now c.all_hold.result.0 c.all_hold.result.1.now) (sym (c.in-Some.ensures.cases.0 ∙ ap (λ n. n ∷ c.in-Some.rest.now) c.in-Both.is))
    (both_arm c.args.fields.now c.all_hold.result.0 c.all_hold.result.1.now c.in-Some.rest.now c.in-Both.count c.all_hold.ensures.value)

pub evaluate-returns-in-Either-clause-value : goal.evaluate-returns-in-Either-clause-value
evaluate-returns-in-Either-clause-value t c =
    subst (Gives c.args.fields.now c.one_holds.result.0 c.one_holds.result.1.now) (sym (c.in-Some.ensures.cases.0 ∙ ap (λ n. n ∷ c.in-Some.rest.now) c.in-Either.is))
    (either_arm c.args.fields.now c.one_holds.result.0 c.one_holds.result.1.now c.in-Some.rest.now c.in-Either.count c.one_holds.ensures.value)

pub all_hold-loop-done-preserved : goal.all_hold-loop-done-preserved
all_hold-loop-done-preserved t c =
    let v = c.loop-done.invariant in
    record {
      members = λ ts rest counted at.
          subst (λ b. AllSoFar c.args.fields.now ts rest c.evaluate-one.result.1.now b (c.loop-done._done + 1) c.args.count) (sym c.both_hold-all.ensures)
          (all_more c.args.fields.now ts rest c.loop-done.left.now c.loop-done.all c.loop-done._done c.args.count c.evaluate-one.result.0 c.evaluate-one.result.1.now c.loop-done-test.true c.evaluate-one.ensures.value (v.members ts rest counted at));
      shorter = omega (arith, v.shorter, c.evaluate-one.ensures.shorter);
    }

pub all_hold-returns-clause-value : goal.all_hold-returns-clause-value
all_hold-returns-clause-value t c = λ ts rest counted at.
    let v = c.loop-done.invariant in
    all_done c.args.fields.now ts rest c.loop-done.left.now c.loop-done.all c.loop-done._done c.args.count c.loop-done-test.false (v.members ts rest counted at)

pub one_holds-loop-done-preserved : goal.one_holds-loop-done-preserved
one_holds-loop-done-preserved t c =
    let v = c.loop-done.invariant in
    record {
      members = λ ts rest counted at.
          subst (λ b. OneSoFar c.args.fields.now ts rest c.evaluate-one.result.1.now b (c.loop-done._done + 1) c.args.count) (sym c.either_holds-one_of.ensures)
          (one_more c.args.fields.now ts rest c.loop-done.left.now c.loop-done.one_of c.loop-done._done c.args.count c.evaluate-one.result.0 c.evaluate-one.result.1.now c.loop-done-test.true c.evaluate-one.ensures.value (v.members ts rest counted at));
      shorter = omega (arith, v.shorter, c.evaluate-one.ensures.shorter);
    }

pub one_holds-returns-clause-value : goal.one_holds-returns-clause-value
one_holds-returns-clause-value t c = λ ts rest counted at.
    let v = c.loop-done.invariant in
    one_done c.args.fields.now ts rest c.loop-done.left.now c.loop-done.one_of c.loop-done._done c.args.count c.loop-done-test.false (v.members ts rest counted at)
