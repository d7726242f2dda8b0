use Rattle.std.proofs.Common.{◌≡◌, ◌++◌, take}
use Rattle.gl_stage.specs.Lent.{names_now, pipelines_now}
use Rattle.gl_stage.specs.Rounds.{names_of}
use Rattle.gl_stage.proofs.names.push_names.Given as goal

abbrev pub invariant-loop-pipeline : goal.invariant-loop-pipeline
invariant-loop-pipeline l = names_now l.names.items ≡ names_now l.fn.names.items ++ names_of (pipelines_now (take l.pipeline-index l.pipelines))
