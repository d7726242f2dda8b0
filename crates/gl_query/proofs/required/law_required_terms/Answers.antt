use Rattle.gl_query.proofs.Requiring.{query_has}
use Rattle.gl_query.proofs.required.law_required_terms.Goals as goal

pub returns : goal.returns
returns c = λ t fields h. query_has fields t h
