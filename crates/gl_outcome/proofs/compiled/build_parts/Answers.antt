use Rattle.std.proofs.Common.{[], ◌++◌, ap, sym, subst, List, ◌∙◌}
use Rattle.std.specs.Prelude.{flat_map}
use Rattle.std.proofs.lemmas.Result.{err_from_is_err_and}
use Rattle.gl_streams.specs.declared.stream.Stream.{Stream}
use Rattle.gl_streams.specs.Matching.{Fits}
use Rattle.gl_grok.specs.Tables.{Table}
use Rattle.gl_check.specs.Checking.{pattern_texts}
use Rattle.gl_settings.specs.declared.input.Input.{Input}
use Rattle.gl_settings.specs.Patterns.{stream_patterns, input_patterns}
use Rattle.gl_building.specs.Places.{InputsExpand, built_inputs, book_of}
use Rattle.gl_building.proofs.Causes.{none_built, was_built_as, both_built, builds_all, memory_handed, fault_handed, among_as}
use Rattle.gl_outcome.proofs.Compiles.{first_among, second_among, third_among}
use Rattle.gl_outcome.proofs.compiled.build_parts.Goals as goal

pub build_inputs-requires : goal.build_inputs-requires
build_inputs-requires g c =
    subst (λ (t : Table). InputsExpand t c.inputs.result.now) (sym c.groks.ensures) (subst (λ (l : List Input). InputsExpand c.args.parts.now.groks l) (sym c.inputs.ensures) c.requires.groks)

pub returns-in_err-streams-clause-builds : goal.returns-in_err-streams-clause-builds
returns-in_err-streams-clause-builds g c =
    fault_handed _ [] _ _ _ _ _ _ _ _ c.from_residual.result (err_from_is_err_and c.from_residual.result c.from_residual.ensures.1) (none_built _ _) c.in_err-streams.ensures.builds
    (among_as _ (flat_map stream_patterns c.args.parts.now.streams) _ (ap (flat_map stream_patterns) c.streams.ensures) (first_among (flat_map stream_patterns c.args.parts.now.streams) (flat_map (input_patterns c.args.parts.now.groks) c.args.parts.now.inputs) (flat_map pattern_texts c.args.parts.now.rules)))

pub returns-in_err-extractors-clause-builds : goal.returns-in_err-extractors-clause-builds
returns-in_err-extractors-clause-builds g c =
    fault_handed _ (flat_map stream_patterns c.args.parts.now.streams) _ _ _ _ _ _ _ _ c.from_residual-in_err-extractors.result (err_from_is_err_and c.from_residual-in_err-extractors.result c.from_residual-in_err-extractors.ensures.1)
    (was_built_as _ (flat_map stream_patterns c.args.parts.now.streams) _ _ _ _ _ (ap (flat_map stream_patterns) c.streams.ensures) c.in_ok-streams.ensures.builds)
    c.in_err-extractors.ensures.builds
    (among_as _ (flat_map (input_patterns c.args.parts.now.groks) c.args.parts.now.inputs) _ (ap (λ (t : Table). flat_map (input_patterns t) c.inputs.result.now) c.groks.ensures ∙ ap (flat_map (input_patterns c.args.parts.now.groks)) c.inputs.ensures) (second_among (flat_map stream_patterns c.args.parts.now.streams) (flat_map (input_patterns c.args.parts.now.groks) c.args.parts.now.inputs) (flat_map pattern_texts c.args.parts.now.rules)))

pub returns-in_err-build_rules-clause-builds : goal.returns-in_err-build_rules-clause-builds
returns-in_err-build_rules-clause-builds g c =
    fault_handed _ ((flat_map stream_patterns c.args.parts.now.streams) ++ (flat_map (input_patterns c.args.parts.now.groks) c.args.parts.now.inputs)) _ _ _ _ _ _ _ _ c.from_residual-in_err-build_rules.result (err_from_is_err_and c.from_residual-in_err-build_rules.result c.from_residual-in_err-build_rules.ensures.1)
    (both_built (flat_map stream_patterns c.args.parts.now.streams) (flat_map (input_patterns c.args.parts.now.groks) c.args.parts.now.inputs) _ _ _ _ _ _
    (was_built_as _ (flat_map stream_patterns c.args.parts.now.streams) _ _ _ _ _ (ap (flat_map stream_patterns) c.streams.ensures) c.in_ok-streams.ensures.builds)
    (was_built_as _ (flat_map (input_patterns c.args.parts.now.groks) c.args.parts.now.inputs) _ _ _ _ _ (ap (λ (t : Table). flat_map (input_patterns t) c.inputs.result.now) c.groks.ensures ∙ ap (flat_map (input_patterns c.args.parts.now.groks)) c.inputs.ensures) c.in_ok-extractors.ensures.builds))
    c.in_err-build_rules.ensures.builds
    (among_as _ (flat_map pattern_texts c.args.parts.now.rules) _ (ap (flat_map pattern_texts) c.rules.ensures) (third_among (flat_map stream_patterns c.args.parts.now.streams) (flat_map (input_patterns c.args.parts.now.groks) c.args.parts.now.inputs) (flat_map pattern_texts c.args.parts.now.rules)))

pub returns-in_err-copy-clause-builds : goal.returns-in_err-copy-clause-builds
returns-in_err-copy-clause-builds g c =
    memory_handed _ ((flat_map stream_patterns c.args.parts.now.streams) ++ (flat_map (input_patterns c.args.parts.now.groks) c.args.parts.now.inputs) ++ (flat_map pattern_texts c.args.parts.now.rules)) _ _ _ _ c.from_residual-in_err-copy.result (err_from_is_err_and c.from_residual-in_err-copy.result c.from_residual-in_err-copy.ensures.1)
    (both_built ((flat_map stream_patterns c.args.parts.now.streams) ++ (flat_map (input_patterns c.args.parts.now.groks) c.args.parts.now.inputs)) (flat_map pattern_texts c.args.parts.now.rules) _ _ _ _ _ _
    (both_built (flat_map stream_patterns c.args.parts.now.streams) (flat_map (input_patterns c.args.parts.now.groks) c.args.parts.now.inputs) _ _ _ _ _ _
    (was_built_as _ (flat_map stream_patterns c.args.parts.now.streams) _ _ _ _ _ (ap (flat_map stream_patterns) c.streams.ensures) c.in_ok-streams.ensures.builds)
    (was_built_as _ (flat_map (input_patterns c.args.parts.now.groks) c.args.parts.now.inputs) _ _ _ _ _ (ap (λ (t : Table). flat_map (input_patterns t) c.inputs.result.now) c.groks.ensures ∙ ap (flat_map (input_patterns c.args.parts.now.groks)) c.inputs.ensures) c.in_ok-extractors.ensures.builds))
    (was_built_as _ (flat_map pattern_texts c.args.parts.now.rules) _ _ _ _ _ (ap (flat_map pattern_texts) c.rules.ensures) c.in_ok-build_rules.ensures.builds))

pub returns-clause-builds : goal.returns-clause-builds
returns-clause-builds g c =
    builds_all _ _ _ _ _ _
    (both_built ((flat_map stream_patterns c.args.parts.now.streams) ++ (flat_map (input_patterns c.args.parts.now.groks) c.args.parts.now.inputs)) (flat_map pattern_texts c.args.parts.now.rules) _ _ _ _ _ _
    (both_built (flat_map stream_patterns c.args.parts.now.streams) (flat_map (input_patterns c.args.parts.now.groks) c.args.parts.now.inputs) _ _ _ _ _ _
    (was_built_as _ (flat_map stream_patterns c.args.parts.now.streams) _ _ _ _ _ (ap (flat_map stream_patterns) c.streams.ensures) c.in_ok-streams.ensures.builds)
    (was_built_as _ (flat_map (input_patterns c.args.parts.now.groks) c.args.parts.now.inputs) _ _ _ _ _ (ap (λ (t : Table). flat_map (input_patterns t) c.inputs.result.now) c.groks.ensures ∙ ap (flat_map (input_patterns c.args.parts.now.groks)) c.inputs.ensures) c.in_ok-extractors.ensures.builds))
    (was_built_as _ (flat_map pattern_texts c.args.parts.now.rules) _ _ _ _ _ (ap (flat_map pattern_texts) c.rules.ensures) c.in_ok-build_rules.ensures.builds))

pub returns-clause-value : goal.returns-clause-value
returns-clause-value g c = record {
  parts = c.in_ok-copy.ensures;
  compilable = c.requires;
  streams = subst (λ (l : List Stream). Fits l c.in_ok-streams.streams) c.streams.ensures c.in_ok-streams.ensures.value;
  extractors = c.in_ok-extractors.ensures.value ∙ ap (λ (t : Table). built_inputs t c.inputs.result.now) c.groks.ensures ∙ ap (built_inputs c.args.parts.now.groks) c.inputs.ensures;
  rules = c.new-rules.ensures ∙ c.in_ok-build_rules.ensures.value ∙ ap book_of c.rules.ensures;
}
