use Rattle.std.proofs.Common.{sym, subst}
use Rattle.gl_rulelang.specs.Fronts.{Ends}
use Rattle.gl_rulelang.proofs.Ends.{front_ends}
use Rattle.gl_rulelang.proofs.front.at_front.Goals as goal

pub returns-clause-ends : goal.returns-clause-ends
returns-clause-ends c = subst (Ends c.args.text.now) (sym c.by_first_byte.ensures) (front_ends c.args.text.now c.utf8.text)
