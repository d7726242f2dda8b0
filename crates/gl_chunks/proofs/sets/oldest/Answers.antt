use Rattle.std.proofs.Common.{rules}
use Rattle.gl_chunks.proofs.Indexing.{opened_le}
use Rattle.gl_chunks.proofs.sets.oldest.Goals as goal

pub returns-in-Some-clause-least : goal.returns-in-Some-clause-least
returns-in-Some-clause-least c = λ q has. opened_le c.in-Some.opening.now q (search rules)
