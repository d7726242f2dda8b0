use Rattle.std.proofs.Common.{sym}
use Rattle.gl_query.proofs.Covering.{piece_reaches, piece_fails, pattern_ends, text_left, is_zero, is_more}
use Rattle.gl_query.proofs.pattern.try_front.Goals as goal

pub returns-in-None : goal.returns-in-None
returns-in-None c =
    piece_fails c.args.pattern.now c.args.text.now c.loop-piece.left.now c.loop-piece.text.now c.in-Some.piece.now c.in-Some.more.now c.loop-piece.invariant c.in-Some.ensures.cases.0 (sym c.if-is_any_run.ensures) c.in-None.ensures

pub loop-piece-preserved : goal.loop-piece-preserved
loop-piece-preserved c =
    piece_reaches c.args.pattern.now c.args.text.now c.loop-piece.left.now c.loop-piece.text.now c.in-Some.piece.now c.in-Some.more.now c.in-Some-behind.rest.now c.loop-piece.invariant c.in-Some.ensures.cases.0 (sym c.if-is_any_run.ensures)
    c.in-Some-behind.ensures.0 c.in-Some-behind.ensures.1

pub returns-then-is_empty : goal.returns-then-is_empty
returns-then-is_empty c =
    pattern_ends c.args.pattern.now c.args.text.now c.loop-piece.left.now c.loop-piece.text.now c.loop-piece.invariant c.in_default.ensures.cases (is_zero _ (sym c.if-is_empty.ensures))

pub returns : goal.returns
returns c =
    text_left c.args.pattern.now c.args.text.now c.loop-piece.left.now c.loop-piece.text.now c.loop-piece.invariant c.in_default.ensures.cases (is_more _ (sym c.if-is_empty.ensures))
