use Rattle.std.proofs.Common.{◌∙◌, ap, arith}
use Rattle.std.proofs.lemmas.Result.{err_from_is_err_and}
use Rattle.gl_building.proofs.Causes.{was_built_as, more_built, memory_handed, fault_handed, among, among_as, all_built}
use Rattle.gl_building.proofs.Fitting.{grown_in}
use Rattle.gl_streams.specs.Matching.{patterns_of}
use Rattle.gl_settings.specs.Patterns.{stream_patterns}
use Rattle.gl_building.specs.Building.{rule_patterns}
use Rattle.gl_building.proofs.streams.build_each.Goals as goal

pub loop-stream-preserved : goal.loop-stream-preserved
loop-stream-preserved g c =
    let l = c.loop-stream in
    record {
      value = grown_in _ _ c.args.streams.now l.stream-index c.stream-item.result _ _ _ c.loop-stream-test.true c.stream-item.is l.invariant.value (c.in_ok-own.ensures.value ∙ ap patterns_of c.as_slice.ensures) c.in_ok-push.ensures.items;
      steady = more_built stream_patterns c.args.streams.now l.stream-index c.stream-item.result c.loop-stream-test.true c.stream-item.is _ _ _ _ _ _ l.invariant.steady (was_built_as _ _ _ _ _ _ _ (ap rule_patterns c.as_slice.ensures) c.in_ok-own.ensures.builds);
    }

pub returns-in_err-own-clause-builds : goal.returns-in_err-own-clause-builds
returns-in_err-own-clause-builds g c =
    fault_handed _ _ _ _ _ _ _ _ _ _ c.from_residual.result (err_from_is_err_and c.from_residual.result c.from_residual.ensures.1) c.loop-stream.invariant.steady c.in_err-own.ensures.builds
    (among_as _ _ _ (ap rule_patterns c.as_slice.ensures) (among stream_patterns c.args.streams.now c.loop-stream.stream-index c.stream-item.result c.loop-stream-test.true c.stream-item.is))

pub returns-in_err-push-clause-builds : goal.returns-in_err-push-clause-builds
returns-in_err-push-clause-builds g c =
    memory_handed _ _ _ _ _ _ c.from_residual-in_err-push.result (err_from_is_err_and c.from_residual-in_err-push.result c.from_residual-in_err-push.ensures.1)
    (more_built stream_patterns c.args.streams.now c.loop-stream.stream-index c.stream-item.result c.loop-stream-test.true c.stream-item.is _ _ _ _ _ _ c.loop-stream.invariant.steady (was_built_as _ _ _ _ _ _ _ (ap rule_patterns c.as_slice.ensures) c.in_ok-own.ensures.builds))

pub returns-clause-builds : goal.returns-clause-builds
returns-clause-builds g c = all_built stream_patterns c.args.streams.now c.loop-stream.stream-index _ _ _ _ _ (omega arith) c.loop-stream.invariant.steady
