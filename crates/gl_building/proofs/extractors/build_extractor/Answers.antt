use Rattle.std.proofs.Common.{[], List, ℕ, Option, ap, ◌∙◌}
use Rattle.std.specs.Prelude.{option_to_list}
use Rattle.std.proofs.lemmas.Result.{err_from_is_err_and}
use Rattle.std.proofs.lemmas.List.Elements.{Contains-append_left, Contains-append_right}
use Rattle.gl_extract.specs.declared.parts.ExtractorParts.{ExtractorParts}
use Rattle.gl_grok.specs.Tables.{table_of}
use Rattle.gl_settings.specs.Patterns.{kind_pattern, condition_pattern}
use Rattle.gl_building.proofs.Causes.{none_built, was_built_as, both_built, builds_all, memory_handed, fault_handed, among_as}
use Rattle.gl_building.proofs.extractors.build_extractor.Goals as goal

pub returns-in_err-text-clause-builds : goal.returns-in_err-text-clause-builds
returns-in_err-text-clause-builds g c =
    memory_handed _ [] _ _ _ _ c.from_residual.result (err_from_is_err_and c.from_residual.result c.from_residual.ensures.1) (none_built _ _)

pub returns-in_err-pattern-clause-builds : goal.returns-in_err-pattern-clause-builds
returns-in_err-pattern-clause-builds g c =
    let front = option_to_list (kind_pattern (table_of c.args.groks.now) c.args.extractor.now.kind) in
    let back = option_to_list (condition_pattern c.args.extractor.now.condition) in
    fault_handed _ [] _ _ _ _ _ _ _ _ c.from_residual-in_err-pattern.result (err_from_is_err_and c.from_residual-in_err-pattern.result c.from_residual-in_err-pattern.ensures.1) (none_built _ _) c.in_err-pattern.ensures.builds
    (among_as _ front _
    (ap option_to_list (c.as_ref.ensures.value ∙ ap (λ (b : Option (List ℕ) × List (List ℕ)). b.0) c.in_ok-text.ensures ∙ ap (λ (p : ExtractorParts). kind_pattern (table_of c.args.groks.now) p.kind) c.parts-parts.ensures.value))
    (λ text found. Contains-append_left front back text found))

pub returns-in_err-condition-clause-builds : goal.returns-in_err-condition-clause-builds
returns-in_err-condition-clause-builds g c =
    let front = option_to_list (kind_pattern (table_of c.args.groks.now) c.args.extractor.now.kind) in
    let back = option_to_list (condition_pattern c.args.extractor.now.condition) in
    fault_handed _ front _ _ _ _ _ _ _ _ c.from_residual-in_err-condition.result (err_from_is_err_and c.from_residual-in_err-condition.result c.from_residual-in_err-condition.ensures.1)
    (was_built_as _ _ _ _ _ _ _
    (ap option_to_list (c.as_ref.ensures.value ∙ ap (λ (b : Option (List ℕ) × List (List ℕ)). b.0) c.in_ok-text.ensures ∙ ap (λ (p : ExtractorParts). kind_pattern (table_of c.args.groks.now) p.kind) c.parts-parts.ensures.value))
    c.in_ok-pattern.ensures.builds)
    c.in_err-condition.ensures.builds
    (among_as _ back _ (ap option_to_list (c.condition_pattern.ensures ∙ ap (λ (p : ExtractorParts). condition_pattern p.condition) c.parts-parts.ensures.value)) (λ text found. Contains-append_right front back text found))

pub returns-clause-builds : goal.returns-clause-builds
returns-clause-builds g c =
    builds_all _ _ _ _ _ _ (
    both_built _ _ _ _ _ _ _ _
    (was_built_as _ _ _ _ _ _ _
    (ap option_to_list (c.as_ref.ensures.value ∙ ap (λ (b : Option (List ℕ) × List (List ℕ)). b.0) c.in_ok-text.ensures ∙ ap (λ (p : ExtractorParts). kind_pattern (table_of c.args.groks.now) p.kind) c.parts-parts.ensures.value))
    c.in_ok-pattern.ensures.builds)
    (was_built_as _ _ _ _ _ _ _ (ap option_to_list (c.condition_pattern.ensures ∙ ap (λ (p : ExtractorParts). condition_pattern p.condition) c.parts-parts.ensures.value)) c.in_ok-condition.ensures.builds))
