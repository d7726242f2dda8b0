use Rattle.gl_query.proofs.Complete.{query_built}
use Rattle.gl_query.proofs.Sound.{is_query}
use Rattle.gl_query.proofs.read.law_one_tree.Goals as goal

pub returns-clause-built : goal.returns-clause-built
returns-clause-built c = query_built

pub returns-clause-only : goal.returns-clause-only
returns-clause-only c = is_query
