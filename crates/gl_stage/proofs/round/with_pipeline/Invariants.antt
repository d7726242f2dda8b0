use Rattle.std.proofs.Common.{◌≡◌, ◌∷◌, ◌++◌, take, filter}
use Rattle.gl_fields.specs.Fields.{comes_before}
use Rattle.gl_stage.specs.Lent.{pipelines_now}
use Rattle.gl_stage.proofs.round.with_pipeline.Given as goal

abbrev pub invariant-loop-other : goal.invariant-loop-other
invariant-loop-other l =
    pipelines_now l.wider.items ≡ filter (λ other. comes_before other.name l.pipeline.name) (pipelines_now (take l.other-index l.round))

abbrev pub invariant-loop-later : goal.invariant-loop-later
invariant-loop-later l =
    pipelines_now l.wider.items
    ≡ filter (λ other. comes_before other.name l.pipeline.name) (pipelines_now l.round)
    ++ l.pipeline ∷ filter (λ other. comes_before l.pipeline.name other.name) (pipelines_now (take l.later-index l.round))
