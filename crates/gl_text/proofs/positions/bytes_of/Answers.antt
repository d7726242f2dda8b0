use Rattle.std.proofs.Common.{◌-◌, length, IsCharBoundary, sym, subst}
use Rattle.gl_text.proofs.Counting.{one_more, cut_before}
use Rattle.gl_text.proofs.positions.bytes_of.Goals as goal

pub loop-passed-preserved : goal.loop-passed-preserved
loop-passed-preserved c = one_more c.args.text.now _ _ c.loop-passed._passed c.in_ok-next.field-0 c.loop-passed.invariant c.in_ok-next.ensures.steps.0

pub returns-clause-cut : goal.returns-clause-cut
returns-clause-cut c =
    subst (λ t. IsCharBoundary c.args.text.now (length c.args.text.now - length t)) (sym c.as_str.ensures)
    (cut_before c.args.text.now _ c.loop-passed._passed c.loop-passed.invariant)
