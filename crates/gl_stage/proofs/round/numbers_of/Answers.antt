use Rattle.std.proofs.Common.{ℕ, List, [], ◌∷◌, fold, map, take, sym, subst}
use Rattle.std.specs.Prelude.{flat_map}
use Rattle.gl_streams.specs.Ids.{with_id}
use Rattle.gl_streams.proofs.Putting.{Rising, rises_with}
use Rattle.gl_rulelang.specs.declared.pipeline.Stage.{Stage}
use Rattle.gl_rulelang.specs.declared.pipeline.Pipeline.{Pipeline}
use Rattle.gl_stage.specs.Lent.{pipelines_now}
use Rattle.gl_stage.proofs.round.numbers_of.Goals as goal

rises_along : (ids news : List ℕ) → Rising ids → Rising (fold with_id ids news)
rises_along ids [] rises = rises
rises_along ids (new ∷ news) rises = rises_along (with_id ids new) news (rises_with ids new rises)

pub put_numbers-requires : goal.put_numbers-requires
put_numbers-requires c =
    subst Rising (sym c.loop-pipeline.invariant)
    (rises_along [] (flat_map (λ (p : Pipeline). map (λ (s : Stage). s.number) p.stages) (pipelines_now (take c.loop-pipeline.pipeline-index c.args.round.now))) tt)
