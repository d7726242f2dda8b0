use Rattle.gl_rulelang.proofs.Forms.{one_meaning}
use Rattle.gl_rulelang.proofs.laws.law_one_tree.Goals as goal

pub returns : goal.returns
returns c = one_meaning
