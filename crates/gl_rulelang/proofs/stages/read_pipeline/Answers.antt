use Rattle.gl_rulelang.proofs.PipelineForms.{pipeline_found, pipeline_only}
use Rattle.gl_rulelang.proofs.stages.read_pipeline.Goals as goal

pub returns-clause-found : goal.returns-clause-found
returns-clause-found c = pipeline_found c.pipeline_from.result c.args.text.now c.pipeline_from.ensures

pub returns-clause-only : goal.returns-clause-only
returns-clause-only c = pipeline_only c.pipeline_from.result c.args.text.now c.pipeline_from.ensures
