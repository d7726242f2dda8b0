use Rattle.gl_text.proofs.Fronts.{starts}
use Rattle.gl_text.proofs.ends.starts_with.Goals as goal

pub returns : goal.returns
returns c = starts _ c.args.part.now c.args.text.now c.starts_with.ensures.cases
