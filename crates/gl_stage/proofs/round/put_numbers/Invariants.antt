use Rattle.std.proofs.Common.{◌≡◌, take, fold, map}
use Rattle.gl_streams.specs.Ids.{with_id}
use Rattle.gl_streams.proofs.Putting.{Rising}
use Rattle.gl_stage.proofs.round.put_numbers.Given as goal

abbrev pub invariant-loop-stage : goal.invariant-loop-stage
invariant-loop-stage l =
    record {
      gathered : l.numbers.items ≡ fold with_id l.fn.numbers.items (map (λ stage. stage.number) (take l.stage-index l.stages));
      rises : Rising l.numbers.items;
    }
