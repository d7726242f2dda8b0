use Rattle.gl_text.proofs.Fronts.{ends}
use Rattle.gl_text.proofs.ends.ends_with.Goals as goal

pub returns : goal.returns
returns c = ends _ c.args.part.now c.args.text.now c.ends_with.ensures.cases
