use Rattle.std.proofs.Common.{arith}
use Rattle.std.proofs.lemmas.Result.{err_from_is_err_and}
use Rattle.gl_building.proofs.Causes.{was_built, more_built, memory_handed, fault_handed, among, all_built}
use Rattle.gl_building.proofs.Fitting.{grown}
use Rattle.gl_check.specs.Checking.{pattern_texts}
use Rattle.gl_building.proofs.rules.build_rules.Goals as goal

pub loop-rule-preserved : goal.loop-rule-preserved
loop-rule-preserved g c =
    let l = c.loop-rule in
    record {
      value = grown _ c.args.rules.now l.rule-index c.rule-item.result _ _ _ c.loop-rule-test.true c.rule-item.is l.invariant.value (cc (c.in_ok-copy.ensures, c.in_ok-patterns.ensures.value)) c.in_ok-push.ensures.items;
      steady = more_built pattern_texts c.args.rules.now l.rule-index c.rule-item.result c.loop-rule-test.true c.rule-item.is _ _ _ _ _ _ l.invariant.steady (was_built _ _ _ _ _ _ c.in_ok-patterns.ensures.builds);
    }

pub returns-in_err-patterns-clause-builds : goal.returns-in_err-patterns-clause-builds
returns-in_err-patterns-clause-builds g c =
    fault_handed _ _ _ _ _ _ _ _ _ _ c.from_residual.result (err_from_is_err_and c.from_residual.result c.from_residual.ensures.1) c.loop-rule.invariant.steady c.in_err-patterns.ensures.builds
    ((among pattern_texts c.args.rules.now c.loop-rule.rule-index c.rule-item.result c.loop-rule-test.true c.rule-item.is))

pub returns-in_err-copy-clause-builds : goal.returns-in_err-copy-clause-builds
returns-in_err-copy-clause-builds g c =
    memory_handed _ _ _ _ _ _ c.from_residual-in_err-copy.result (err_from_is_err_and c.from_residual-in_err-copy.result c.from_residual-in_err-copy.ensures.1)
    (more_built pattern_texts c.args.rules.now c.loop-rule.rule-index c.rule-item.result c.loop-rule-test.true c.rule-item.is _ _ _ _ _ _ c.loop-rule.invariant.steady (was_built _ _ _ _ _ _ c.in_ok-patterns.ensures.builds))

pub returns-in_err-push-clause-builds : goal.returns-in_err-push-clause-builds
returns-in_err-push-clause-builds g c =
    memory_handed _ _ _ _ _ _ c.from_residual-in_err-push.result (err_from_is_err_and c.from_residual-in_err-push.result c.from_residual-in_err-push.ensures.1)
    (more_built pattern_texts c.args.rules.now c.loop-rule.rule-index c.rule-item.result c.loop-rule-test.true c.rule-item.is _ _ _ _ _ _ c.loop-rule.invariant.steady (was_built _ _ _ _ _ _ c.in_ok-patterns.ensures.builds))

pub returns-clause-builds : goal.returns-clause-builds
returns-clause-builds g c = all_built pattern_texts c.args.rules.now c.loop-rule.rule-index _ _ _ _ _ (omega arith) c.loop-rule.invariant.steady
