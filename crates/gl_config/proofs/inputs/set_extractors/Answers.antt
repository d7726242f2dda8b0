use Rattle.std.proofs.Common.{rules, ◌≡◌, true, List, sym, ap, ◌∙◌, map}
use Rattle.gl_extract.specs.declared.parts.ExtractorParts.{ExtractorParts}
use Rattle.gl_commands.specs.declared.command.Command.TheVariants.{SetExtractors}
use Rattle.gl_settings.specs.declared.input.Input.{Input}
use Rattle.gl_settings.specs.Settings.{has_name, has_input}
use Rattle.gl_config.specs.Next.{behind, changed}
use Rattle.gl_config.specs.Applying.{known, first_of, extractor_cause}
use Rattle.gl_config.proofs.Refusing.{exit, refuses_later, none_both}
use Rattle.gl_config.proofs.inputs.set_extractors.Goals as goal

pub returns-in_err-extractors-clause-err : goal.returns-in_err-extractors-clause-err
returns-in_err-extractors-clause-err c =
    let yes : c.has_name.result ≡ true = search rules in
    let there : has_input c.args.parts.now c.args.input.now ≡ true =
    sym (λ i. has_name (λ (x : Input). x.name) (c.as_str.ensures i) (c.inputs.ensures i)) ∙ sym c.has_name.ensures ∙ yes in
    exit c.from_residual.result c.in_err-extractors.field-0.0 _ c.from_residual.ensures.1
    (refuses_later (known (has_input c.args.parts.now c.args.input.now)) (first_of (map (extractor_cause c.args.parts.now.groks) c.args.extractors.now)) c.in_err-extractors.field-0.0 (ap known there) c.in_err-extractors.ensures.err)

pub returns-clause-ok : goal.returns-clause-ok
returns-clause-ok c =
    let yes : c.has_name.result ≡ true = search rules in
    let there : has_input c.args.parts.now c.args.input.now ≡ true =
    sym (λ i. has_name (λ (x : Input). x.name) (c.as_str.ensures i) (c.inputs.ensures i)) ∙ sym c.has_name.ensures ∙ yes in (
      none_both (known (has_input c.args.parts.now c.args.input.now)) (first_of (map (extractor_cause c.args.parts.now.groks) c.args.extractors.now)) (ap known there) c.in_ok-extractors.ensures.ok.0,
      c.in_ok-with_extractors.ensures
          ∙ ap (λ (es : List ExtractorParts). behind c.args.parts.now (changed c.args.parts.now (SetExtractors c.args.input.now es))) (c.as_slice.ensures ∙ c.in_ok-extractors.ensures.ok.1),
    )
