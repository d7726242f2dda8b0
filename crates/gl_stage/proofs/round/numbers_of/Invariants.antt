use Rattle.std.proofs.Common.{◌≡◌, take}
use Rattle.gl_stage.specs.Lent.{pipelines_now}
use Rattle.gl_stage.specs.Rounds.{numbers_of}
use Rattle.gl_stage.proofs.round.numbers_of.Given as goal

abbrev pub invariant-loop-pipeline : goal.invariant-loop-pipeline
invariant-loop-pipeline l = l.numbers.items ≡ numbers_of (pipelines_now (take l.pipeline-index l.round))
