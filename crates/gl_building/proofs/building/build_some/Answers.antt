use Rattle.std.specs.Prelude.{[]}
use Rattle.std.proofs.lemmas.Result.{err_from_is_err_and}
use Rattle.gl_building.proofs.Causes.{none_built, was_built, builds_all, fault_handed}
use Rattle.gl_building.proofs.building.build_some.Goals as goal

pub returns-in_ok-build-in-Some-clause-builds : goal.returns-in_ok-build-in-Some-clause-builds
returns-in_ok-build-in-Some-clause-builds g c = rw c.in-Some.is (builds_all _ _ _ _ _ _ (was_built _ _ _ _ _ _ c.in_ok-build-in-Some.ensures.builds))

pub returns-in_err-build-in-Some-clause-builds : goal.returns-in_err-build-in-Some-clause-builds
returns-in_err-build-in-Some-clause-builds g c = rw c.in-Some.is (
    fault_handed _ [] _ _ _ _ _ _ _ _ c.from_residual.result (err_from_is_err_and c.from_residual.result c.from_residual.ensures.1)
    (none_built _ _) c.in_err-build-in-Some.ensures.builds (λ text found. found))

pub returns-in-None-clause-builds : goal.returns-in-None-clause-builds
returns-in-None-clause-builds g c = rw c.in-None.is (builds_all _ _ _ _ _ _ (none_built _ _))
