use Rattle.std.proofs.Common.{ap, ◌∙◌}
use Rattle.std.proofs.lemmas.Result.{IfOk-weaker}
use Rattle.gl_rulelang.specs.declared.pipeline.Pipeline.{Pipeline}
use Rattle.gl_settings.specs.Settings.{placed}
use Rattle.gl_config.proofs.sources.with_pipeline.Goals as goal

pub returns : goal.returns
returns c =
    IfOk-weaker c.with_pipelines.result _ _
    (λ p h. h ∙ (λ i. record (c.in_ok-next.ensures i) { pipelines = (c.in_ok-pipelines.ensures ∙ ap (placed (λ (x : Pipeline). x.name) c.args.pipeline) c.pipelines.ensures) i }))
    c.with_pipelines.ensures
