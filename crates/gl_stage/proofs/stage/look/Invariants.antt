use Rattle.std.proofs.Common.{◌≡◌, take}
use Rattle.gl_functions.specs.Worlds.{known_of}
use Rattle.gl_stage.specs.Stages.{held, stops}
use Rattle.gl_stage.specs.Books.{rules_at, scene_of}
use Rattle.gl_stage.specs.Lent.{names_now, pipelines_now, moving_of}
use Rattle.gl_stage.proofs.stage.look.Given as goal

abbrev pub invariant-loop-pipeline : goal.invariant-loop-pipeline
invariant-loop-pipeline l =
    record {
      holding : rules_at l.fn.rules l.looked.held.items ≡ held (scene_of (known_of l.world) l.fn.rules) (pipelines_now (take l.pipeline-index l.round)) l.n (moving_of l.moving);
      stopping : names_now l.looked.stops.items ≡ stops (scene_of (known_of l.world) l.fn.rules) (pipelines_now (take l.pipeline-index l.round)) l.n (moving_of l.moving);
      same : l.rules ≡ l.fn.rules;
    }
