use Rattle.std.proofs.Common.{◌≡◌, take}
use Rattle.gl_functions.specs.Worlds.{known_of}
use Rattle.gl_stage.specs.Stages.{acted_all}
use Rattle.gl_stage.specs.Books.{rules_at}
use Rattle.gl_stage.proofs.book.act_all.Given as goal

abbrev pub invariant-loop-place : goal.invariant-loop-place
invariant-loop-place l =
    record {
      acted : l.message ≡ acted_all (known_of l.world) (rules_at l.fn.rules (take l.place-index l.places)) l.fn.message;
      same : l.rules ≡ l.fn.rules;
    }
