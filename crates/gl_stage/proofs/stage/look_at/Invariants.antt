use Rattle.std.proofs.Common.{◌≡◌, take}
use Rattle.gl_functions.specs.Worlds.{known_of}
use Rattle.gl_stage.specs.Stages.{holds_of}
use Rattle.gl_stage.specs.Books.{scene_of}
use Rattle.gl_stage.proofs.Walking.{LooksAt}
use Rattle.gl_stage.proofs.stage.look_at.Given as goal

abbrev pub invariant-loop-name : goal.invariant-loop-name
invariant-loop-name l =
    record {
      looks : LooksAt l.fn.rules (holds_of (scene_of (known_of l.world) l.fn.rules) l.message) (take l.name-index l.name-items) l.fn.held.items l.held.items l.each l.one;
      same : l.rules ≡ l.fn.rules;
    }
