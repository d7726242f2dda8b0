use Rattle.gl_chunks.proofs.Keeping.{keeps_end}
use Rattle.gl_chunks.proofs.chunks.Chunks.end.Goals as goal

pub returns-clause-ok : goal.returns-clause-ok
returns-clause-ok c = λ s k. keeps_end c.args.now c.args.id c.args.self.now.sets c.remove.new.self c.args.self.now.ended c.insert.new.self s c.remove.ensures c.in_ok-insert.ensures.updates.0 k
