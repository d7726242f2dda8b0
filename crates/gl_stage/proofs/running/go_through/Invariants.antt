use Rattle.std.proofs.Common.{◌≡◌, drop}
use Rattle.gl_functions.specs.Worlds.{known_of}
use Rattle.gl_stage.specs.Rounds.{behind_round, through}
use Rattle.gl_stage.specs.Books.{scene_of}
use Rattle.gl_stage.specs.Lent.{pipelines_now, moving_of}
use Rattle.gl_stage.proofs.running.go_through.Given as goal

abbrev pub invariant-loop-n : goal.invariant-loop-n
invariant-loop-n l =
    record {
      goes :
          behind_round (scene_of (known_of l.world) l.fn.rules) (pipelines_now l.round) l.fn.message
          ≡ (through (scene_of (known_of l.world) l.fn.rules) (pipelines_now l.round) (drop l.n-index l.n-items) (moving_of l.moving)).message;
      same : l.rules ≡ l.fn.rules;
    }
