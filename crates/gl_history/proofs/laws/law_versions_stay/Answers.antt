use Rattle.gl_history.proofs.Journals.{versions_stay}
use Rattle.gl_history.proofs.laws.law_versions_stay.Goals as goal

pub returns : goal.returns
returns c = versions_stay
