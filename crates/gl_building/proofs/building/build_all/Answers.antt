use Rattle.std.proofs.Common.{arith, rules}
use Rattle.std.proofs.lemmas.List.{take_more}
use Rattle.std.proofs.lemmas.Result.{err_from_is_err_and}
use Rattle.gl_building.proofs.Causes.{none_built, was_built, more_built, memory_handed, fault_handed, among_alone, all_alone, alone}
use Rattle.gl_building.proofs.building.build_all.Goals as goal

pub loop-text-init : goal.loop-text-init
loop-text-init g c = record { value = search rules; steady = none_built _ _ }

pub loop-text-preserved : goal.loop-text-preserved
loop-text-preserved g c =
    let l = c.loop-text in
    let texts = c.args.texts.now in
    let more = take_more texts l.text-index c.text-item.result c.loop-text-test.true in
    record {
      value = cc (c.in_ok-push.ensures.items, c.in_ok-pattern.ensures.value, c.text-item.is, l.invariant.value, more);
      steady = more_built alone texts l.text-index c.text-item.result c.loop-text-test.true c.text-item.is _ _ _ _ _ _ l.invariant.steady (was_built _ _ _ _ _ _ c.in_ok-pattern.ensures.builds);
    }

pub returns-in_err-pattern-clause-builds : goal.returns-in_err-pattern-clause-builds
returns-in_err-pattern-clause-builds g c =
    fault_handed _ _ _ _ _ _ _ _ _ _ c.from_residual.result (err_from_is_err_and c.from_residual.result c.from_residual.ensures.1) c.loop-text.invariant.steady c.in_err-pattern.ensures.builds
    (among_alone c.args.texts.now c.loop-text.text-index c.text-item.result c.loop-text-test.true c.text-item.is)

pub returns-in_err-push-clause-builds : goal.returns-in_err-push-clause-builds
returns-in_err-push-clause-builds g c =
    memory_handed _ _ _ _ _ _ c.from_residual-in_err-push.result (err_from_is_err_and c.from_residual-in_err-push.result c.from_residual-in_err-push.ensures.1)
    (more_built alone c.args.texts.now c.loop-text.text-index c.text-item.result c.loop-text-test.true c.text-item.is _ _ _ _ _ _ c.loop-text.invariant.steady (was_built _ _ _ _ _ _ c.in_ok-pattern.ensures.builds))

pub returns-clause-builds : goal.returns-clause-builds
returns-clause-builds g c = all_alone c.args.texts.now c.loop-text.text-index _ _ _ _ _ (omega arith) c.loop-text.invariant.steady
