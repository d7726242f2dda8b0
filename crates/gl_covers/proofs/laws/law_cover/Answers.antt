use Rattle.gl_covers.proofs.Covering.{query_covered}
use Rattle.gl_covers.proofs.laws.law_cover.Goals as goal

pub returns : goal.returns
returns c = λ t rows fields terms is h. query_covered rows fields t terms is h
