use Rattle.std.proofs.Common.{◌∙◌, ap, arith}
use Rattle.std.specs.Prelude.{option_to_list}
use Rattle.std.proofs.lemmas.Result.{err_from_is_err_and}
use Rattle.gl_building.proofs.Causes.{was_built_as, more_built, memory_handed, fault_handed, among, among_as, all_built}
use Rattle.gl_building.proofs.Fitting.{grown}
use Rattle.gl_streams.specs.declared.stream.StreamRule.{StreamRule}
use Rattle.gl_streams.specs.Matching.{pattern_of}
use Rattle.gl_building.proofs.streams.build_own.Goals as goal

pub loop-rule-preserved : goal.loop-rule-preserved
loop-rule-preserved g c =
    let l = c.loop-rule in
    record {
      value = grown _ c.args.rules.now l.rule-index c.rule-item.result _ _ _ c.loop-rule-test.true c.rule-item.is l.invariant.value (c.in_ok-pattern.ensures.value ∙ c.pattern_of.ensures) c.in_ok-push.ensures.items;
      steady = more_built (λ (rule : StreamRule). option_to_list (pattern_of rule.test)) c.args.rules.now l.rule-index c.rule-item.result c.loop-rule-test.true c.rule-item.is _ _ _ _ _ _ l.invariant.steady (was_built_as _ _ _ _ _ _ _ (ap option_to_list c.pattern_of.ensures) c.in_ok-pattern.ensures.builds);
    }

pub returns-in_err-pattern-clause-builds : goal.returns-in_err-pattern-clause-builds
returns-in_err-pattern-clause-builds g c =
    fault_handed _ _ _ _ _ _ _ _ _ _ c.from_residual.result (err_from_is_err_and c.from_residual.result c.from_residual.ensures.1) c.loop-rule.invariant.steady c.in_err-pattern.ensures.builds
    (among_as _ _ _ (ap option_to_list c.pattern_of.ensures) (among (λ (rule : StreamRule). option_to_list (pattern_of rule.test)) c.args.rules.now c.loop-rule.rule-index c.rule-item.result c.loop-rule-test.true c.rule-item.is))

pub returns-in_err-push-clause-builds : goal.returns-in_err-push-clause-builds
returns-in_err-push-clause-builds g c =
    memory_handed _ _ _ _ _ _ c.from_residual-in_err-push.result (err_from_is_err_and c.from_residual-in_err-push.result c.from_residual-in_err-push.ensures.1)
    (more_built (λ (rule : StreamRule). option_to_list (pattern_of rule.test)) c.args.rules.now c.loop-rule.rule-index c.rule-item.result c.loop-rule-test.true c.rule-item.is _ _ _ _ _ _ c.loop-rule.invariant.steady (was_built_as _ _ _ _ _ _ _ (ap option_to_list c.pattern_of.ensures) c.in_ok-pattern.ensures.builds))

pub returns-clause-builds : goal.returns-clause-builds
returns-clause-builds g c = all_built (λ (rule : StreamRule). option_to_list (pattern_of rule.test)) c.args.rules.now c.loop-rule.rule-index _ _ _ _ _ (omega arith) c.loop-rule.invariant.steady
