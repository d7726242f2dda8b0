use Rattle.std.proofs.Common.{[], take}
use Rattle.gl_base.specs.declared.fed.Fed.TheVariants.{Nothing}
use Rattle.gl_lines.specs.Fronts.{IsFront, IsTaking, Moves, rest_of}
use Rattle.gl_lines.proofs.front.feed.Given as goal

abbrev pub invariant-loop-i : goal.invariant-loop-i
invariant-loop-i l = record {
  front : IsFront l.counts l.front;
  taking : IsTaking l.front.state;
  moves : Moves l.counts (rest_of l.fn.front) (rest_of l.front) (take l.i l.piece) Nothing [];
}
