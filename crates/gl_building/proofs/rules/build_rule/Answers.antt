use Rattle.std.proofs.Common.{[], ◌∙◌}
use Rattle.std.proofs.lemmas.Result.{err_from_is_err_and}
use Rattle.gl_building.proofs.Causes.{none_built, was_built_as, builds_all, memory_handed, fault_handed, among_as}
use Rattle.gl_building.proofs.rules.build_rule.Goals as goal

pub returns-in_err-texts-clause-builds : goal.returns-in_err-texts-clause-builds
returns-in_err-texts-clause-builds g c =
    memory_handed _ [] _ _ _ _ c.from_residual.result (err_from_is_err_and c.from_residual.result c.from_residual.ensures.1) (none_built _ _)

pub returns-in_err-build_all-clause-builds : goal.returns-in_err-build_all-clause-builds
returns-in_err-build_all-clause-builds g c =
    fault_handed _ [] _ _ _ _ _ _ _ _ c.from_residual-in_err-build_all.result (err_from_is_err_and c.from_residual-in_err-build_all.result c.from_residual-in_err-build_all.ensures.1) (none_built _ _) c.in_err-build_all.ensures.builds
    (among_as _ _ _ (c.as_slice.ensures ∙ c.in_ok-texts.ensures) (λ text found. found))

pub returns-clause-builds : goal.returns-clause-builds
returns-clause-builds g c = builds_all _ _ _ _ _ _ (was_built_as _ _ _ _ _ _ _ (c.as_slice.ensures ∙ c.in_ok-texts.ensures) c.in_ok-build_all.ensures.builds)
