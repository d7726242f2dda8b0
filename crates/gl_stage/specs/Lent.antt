-- What lists of references stand for, and a message in the code (this project).
use Rattle.std.specs.Prelude.{ℕ, List, map}
use Rattle.std.specs.Borrow.{Bor}
use Rattle.gl_rulelang.specs.declared.pipeline.Pipeline.{Pipeline}
use Rattle.gl_stage.specs.Stages.{Moving}
use Rattle.gl_stage.specs.declared.moving.Moving.{Moving as Held}

abbrev pub names_now : List (Bor (List ℕ)) → List (List ℕ)
names_now names = map (λ name. name.now) names

abbrev pub pipelines_now : List (Bor Pipeline) → List Pipeline
pipelines_now pipelines = map (λ p. p.now) pipelines

abbrev pub moving_of : Held → Moving
moving_of m = record { message = m.message; stopped = names_now m.stopped.items }
