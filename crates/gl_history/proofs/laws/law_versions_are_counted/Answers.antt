use Rattle.gl_history.proofs.Journals.{versions_counted}
use Rattle.gl_history.proofs.laws.law_versions_are_counted.Goals as goal

pub returns : goal.returns
returns c = versions_counted
