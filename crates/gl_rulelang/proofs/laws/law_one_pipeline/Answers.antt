use Rattle.gl_rulelang.proofs.PipelineForms.{one_pipeline}
use Rattle.gl_rulelang.proofs.laws.law_one_pipeline.Goals as goal

pub returns : goal.returns
returns c = one_pipeline
