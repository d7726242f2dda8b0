use Rattle.std.proofs.Common.{◌≡◌, ◌-◌}
use Rattle.gl_functions.specs.Worlds.{known_of}
use Rattle.gl_stage.specs.Rounds.{rounds, run_end}
use Rattle.gl_stage.specs.Books.{scene_of, layout_of}
use Rattle.gl_stage.specs.Lent.{names_now}
use Rattle.gl_stage.proofs.running.run.Given as goal

abbrev pub invariant-loop-turn : goal.invariant-loop-turn
invariant-loop-turn l =
    record {
      goes :
          run_end (scene_of (known_of l.world) l.fn.rules) (layout_of l.pipelines l.connections) l.fn.state
          ≡ rounds (l.turns - l.turn) (scene_of (known_of l.world) l.fn.rules) (layout_of l.pipelines l.connections) (names_now l.ran.items) l.message;
      same : l.rules ≡ l.fn.rules;
    }
