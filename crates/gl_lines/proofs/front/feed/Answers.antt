use Rattle.std.proofs.Common.{[], ◌+◌}
use Rattle.gl_base.specs.declared.fed.Fed.TheVariants.{Nothing, Whole, TooLong}
use Rattle.gl_lines.specs.Fronts.{rest_of, lent_of}
use Rattle.gl_lines.proofs.Framings.{moves_nothing, step_moves, all_too_long}
use Rattle.gl_lines.proofs.front.feed.Goals as goal

pub loop-i-init : goal.loop-i-init
loop-i-init c = record {
  front = c.requires.front;
  taking = c.requires.taking;
  moves = moves_nothing c.args.counts (rest_of c.args.front.now) [];
}

pub returns-in-Whole-clause-frames : goal.returns-in-Whole-clause-frames
returns-in-Whole-clause-frames c =
    let l = c.loop-i in
    step_moves c.args.counts (rest_of c.args.front.now) l.front.bytes.items l.front.state c.args.piece.now l.i Whole (rest_of c.step.new.front) (lent_of c.step.new.front)
    c.loop-i-test.true l.invariant.taking l.invariant.moves c.in-Whole.ensures.becomes

pub returns-in-TooLong-clause-frames : goal.returns-in-TooLong-clause-frames
returns-in-TooLong-clause-frames c =
    let l = c.loop-i in
    all_too_long c.args.counts (rest_of c.args.front.now) c.args.piece.now (l.i + 1) (rest_of c.step.new.front) (lent_of c.step.new.front) (lent_of c.step.new.front) c.in-TooLong.ensures.becomes.0
    (step_moves c.args.counts (rest_of c.args.front.now) l.front.bytes.items l.front.state c.args.piece.now l.i TooLong (rest_of c.step.new.front) (lent_of c.step.new.front)
    c.loop-i-test.true l.invariant.taking l.invariant.moves c.in-TooLong.ensures.becomes)

pub loop-i-preserved : goal.loop-i-preserved
loop-i-preserved c =
    let l = c.loop-i in
    record {
      front = c.step.ensures.front;
      taking = c.step.ensures.taking c.in-Nothing.is;
      moves = step_moves c.args.counts (rest_of c.args.front.now) l.front.bytes.items l.front.state c.args.piece.now l.i Nothing (rest_of c.step.new.front) []
          c.loop-i-test.true l.invariant.taking l.invariant.moves c.in-Nothing.ensures.becomes;
    }
