use Rattle.std.proofs.Common.{arith}
use Rattle.std.proofs.lemmas.Result.{err_from_is_err_and}
use Rattle.gl_building.proofs.Causes.{was_built, more_built, memory_handed, fault_handed, among, all_built}
use Rattle.gl_building.proofs.Fitting.{grown}
use Rattle.gl_grok.specs.Tables.{table_of}
use Rattle.gl_settings.specs.Patterns.{extractor_patterns}
use Rattle.gl_building.proofs.inputs.build_extractors.Goals as goal

pub loop-extractor-preserved : goal.loop-extractor-preserved
loop-extractor-preserved g c =
    let l = c.loop-extractor in
    record {
      value = grown _ c.args.extractors.now l.extractor-index c.extractor-item.result _ _ _ c.loop-extractor-test.true c.extractor-item.is l.invariant.value c.in_ok-one.ensures.value c.in_ok-push.ensures.items;
      steady = more_built (extractor_patterns (table_of c.args.groks.now)) c.args.extractors.now l.extractor-index c.extractor-item.result c.loop-extractor-test.true c.extractor-item.is _ _ _ _ _ _ l.invariant.steady (was_built _ _ _ _ _ _ c.in_ok-one.ensures.builds);
    }

pub returns-in_err-one-clause-builds : goal.returns-in_err-one-clause-builds
returns-in_err-one-clause-builds g c =
    fault_handed _ _ _ _ _ _ _ _ _ _ c.from_residual.result (err_from_is_err_and c.from_residual.result c.from_residual.ensures.1) c.loop-extractor.invariant.steady c.in_err-one.ensures.builds
    ((among (extractor_patterns (table_of c.args.groks.now)) c.args.extractors.now c.loop-extractor.extractor-index c.extractor-item.result c.loop-extractor-test.true c.extractor-item.is))

pub returns-in_err-push-clause-builds : goal.returns-in_err-push-clause-builds
returns-in_err-push-clause-builds g c =
    memory_handed _ _ _ _ _ _ c.from_residual-in_err-push.result (err_from_is_err_and c.from_residual-in_err-push.result c.from_residual-in_err-push.ensures.1)
    (more_built (extractor_patterns (table_of c.args.groks.now)) c.args.extractors.now c.loop-extractor.extractor-index c.extractor-item.result c.loop-extractor-test.true c.extractor-item.is _ _ _ _ _ _ c.loop-extractor.invariant.steady (was_built _ _ _ _ _ _ c.in_ok-one.ensures.builds))

pub returns-clause-builds : goal.returns-clause-builds
returns-clause-builds g c = all_built (extractor_patterns (table_of c.args.groks.now)) c.args.extractors.now c.loop-extractor.extractor-index _ _ _ _ _ (omega arith) c.loop-extractor.invariant.steady
