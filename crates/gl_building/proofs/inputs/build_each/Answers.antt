use Rattle.std.proofs.Common.{◌∙◌, ap, arith}
use Rattle.std.proofs.lemmas.Result.{err_from_is_err_and}
use Rattle.gl_building.proofs.Causes.{was_built_as, more_built, memory_handed, fault_handed, among, among_as, all_built}
use Rattle.gl_building.proofs.Fitting.{grown_in}
use Rattle.std.specs.Prelude.{flat_map}
use Rattle.gl_grok.specs.Tables.{table_of}
use Rattle.gl_settings.specs.Patterns.{extractor_patterns, input_patterns}
use Rattle.gl_building.specs.Places.{built_all}
use Rattle.gl_building.proofs.inputs.build_each.Goals as goal

pub loop-input-preserved : goal.loop-input-preserved
loop-input-preserved g c =
    let l = c.loop-input in
    record {
      value = grown_in _ _ c.args.inputs.now l.input-index c.input-item.result _ _ _ c.loop-input-test.true c.input-item.is l.invariant.value (c.in_ok-own.ensures.value ∙ ap (built_all (table_of c.args.groks.now)) c.as_slice.ensures) c.in_ok-push.ensures.items;
      steady = more_built (input_patterns (table_of c.args.groks.now)) c.args.inputs.now l.input-index c.input-item.result c.loop-input-test.true c.input-item.is _ _ _ _ _ _ l.invariant.steady (was_built_as _ _ _ _ _ _ _ (ap (flat_map (extractor_patterns (table_of c.args.groks.now))) c.as_slice.ensures) c.in_ok-own.ensures.builds);
    }

pub returns-in_err-own-clause-builds : goal.returns-in_err-own-clause-builds
returns-in_err-own-clause-builds g c =
    fault_handed _ _ _ _ _ _ _ _ _ _ c.from_residual.result (err_from_is_err_and c.from_residual.result c.from_residual.ensures.1) c.loop-input.invariant.steady c.in_err-own.ensures.builds
    (among_as _ _ _ (ap (flat_map (extractor_patterns (table_of c.args.groks.now))) c.as_slice.ensures) (among (input_patterns (table_of c.args.groks.now)) c.args.inputs.now c.loop-input.input-index c.input-item.result c.loop-input-test.true c.input-item.is))

pub returns-in_err-push-clause-builds : goal.returns-in_err-push-clause-builds
returns-in_err-push-clause-builds g c =
    memory_handed _ _ _ _ _ _ c.from_residual-in_err-push.result (err_from_is_err_and c.from_residual-in_err-push.result c.from_residual-in_err-push.ensures.1)
    (more_built (input_patterns (table_of c.args.groks.now)) c.args.inputs.now c.loop-input.input-index c.input-item.result c.loop-input-test.true c.input-item.is _ _ _ _ _ _ c.loop-input.invariant.steady (was_built_as _ _ _ _ _ _ _ (ap (flat_map (extractor_patterns (table_of c.args.groks.now))) c.as_slice.ensures) c.in_ok-own.ensures.builds))

pub returns-clause-builds : goal.returns-clause-builds
returns-clause-builds g c = all_built (input_patterns (table_of c.args.groks.now)) c.args.inputs.now c.loop-input.input-index _ _ _ _ _ (omega arith) c.loop-input.invariant.steady
