use Rattle.std.proofs.Common.{[], refl}
use Rattle.std.proofs.lemmas.Result.{err_from_is_err_and}
use Rattle.gl_settings.specs.Patterns.{patterns_of}
use Rattle.gl_building.proofs.Causes.{none_built, was_built, builds_all, fault_handed}
use Rattle.gl_outcome.proofs.compiled.compile.Goals as goal

pub returns-clause-patterns : goal.returns-clause-patterns
returns-clause-patterns g c = λ _. (was_built _ _ _ _ _ _ c.in_ok-build_parts.ensures.builds).patterns

pub returns-clause-cause : goal.returns-clause-cause
returns-clause-cause g c = (builds_all (patterns_of c.args.parts.now) _ _ _ _ _ (was_built _ _ _ _ _ _ c.in_ok-build_parts.ensures.builds)).cause

pub returns-clause-refused : goal.returns-clause-refused
returns-clause-refused g c = (builds_all (patterns_of c.args.parts.now) _ _ _ _ _ (was_built _ _ _ _ _ _ c.in_ok-build_parts.ensures.builds)).refused

pub returns-clause-kept : goal.returns-clause-kept
returns-clause-kept g c = (builds_all (patterns_of c.args.parts.now) _ _ _ _ _ (was_built _ _ _ _ _ _ c.in_ok-build_parts.ensures.builds)).kept

pub returns-in_err-build_parts-clause-patterns : goal.returns-in_err-build_parts-clause-patterns
returns-in_err-build_parts-clause-patterns g c =
    (fault_handed (patterns_of c.args.parts.now) [] _ _ _ _ _ _ _ _ c.from_residual.result (err_from_is_err_and c.from_residual.result c.from_residual.ensures.1) (none_built _ _) c.in_err-build_parts.ensures.builds (λ text found. found)).patterns

pub returns-in_err-build_parts-clause-cause : goal.returns-in_err-build_parts-clause-cause
returns-in_err-build_parts-clause-cause g c =
    (fault_handed (patterns_of c.args.parts.now) [] _ _ _ _ _ _ _ _ c.from_residual.result (err_from_is_err_and c.from_residual.result c.from_residual.ensures.1) (none_built _ _) c.in_err-build_parts.ensures.builds (λ text found. found)).cause

pub returns-in_err-build_parts-clause-refused : goal.returns-in_err-build_parts-clause-refused
returns-in_err-build_parts-clause-refused g c =
    (fault_handed (patterns_of c.args.parts.now) [] _ _ _ _ _ _ _ _ c.from_residual.result (err_from_is_err_and c.from_residual.result c.from_residual.ensures.1) (none_built _ _) c.in_err-build_parts.ensures.builds (λ text found. found)).refused

pub returns-in_err-build_parts-clause-kept : goal.returns-in_err-build_parts-clause-kept
returns-in_err-build_parts-clause-kept g c =
    (fault_handed (patterns_of c.args.parts.now) [] _ _ _ _ _ _ _ _ c.from_residual.result (err_from_is_err_and c.from_residual.result c.from_residual.ensures.1) (none_built _ _) c.in_err-build_parts.ensures.builds (λ text found. found)).kept
