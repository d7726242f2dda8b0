use Rattle.gl_lines.proofs.Unique.{one_framing}
use Rattle.gl_lines.proofs.laws.law_one_framing.Goals as goal

pub returns : goal.returns
returns c = one_framing
