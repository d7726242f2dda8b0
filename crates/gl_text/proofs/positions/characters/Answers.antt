use Rattle.gl_text.proofs.Counting.{in_order}
use Rattle.gl_text.proofs.positions.characters.Goals as goal

pub returns-clause-cuts : goal.returns-clause-cuts
returns-clause-cuts c =
    (in_order c.args.begin c.args.end c.in_ok-first.first c.in_ok-last.last c.args.text.now c.if-begin-end.false c.in_ok-last.ensures.value c.in_ok-first.ensures.value, c.in_ok-first.ensures.cut, c.in_ok-last.ensures.cut)
