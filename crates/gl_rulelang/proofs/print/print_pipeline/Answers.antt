use Rattle.gl_rulelang.proofs.PipelineBack.{printed_pipeline_reads_back}
use Rattle.gl_rulelang.proofs.print.print_pipeline.Goals as goal

pub returns-clause-reads_back : goal.returns-clause-reads_back
returns-clause-reads_back c = printed_pipeline_reads_back c.pipeline_printed.result c.args.pipeline.now c.pipeline_printed.ensures
