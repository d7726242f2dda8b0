use Rattle.std.proofs.Common.{◌≡◌, [], take, filter, fold}
use Rattle.gl_stage.specs.Lent.{names_now, pipelines_now}
use Rattle.gl_stage.specs.Rounds.{is_due, with_pipeline}
use Rattle.gl_stage.proofs.round.due.Given as goal

abbrev pub invariant-loop-pipeline : goal.invariant-loop-pipeline
invariant-loop-pipeline l =
    pipelines_now l.round.items
    ≡ fold with_pipeline [] (filter (is_due l.connections (names_now l.ran) l.streams) (take l.pipeline-index l.pipelines))
