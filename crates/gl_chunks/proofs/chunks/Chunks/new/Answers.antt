use Rattle.gl_chunks.proofs.Keeping.{keeps_new}
use Rattle.gl_chunks.proofs.chunks.Chunks.new.Goals as goal

pub returns : goal.returns
returns c = keeps_new c.new.result c.new-2.result c.new.ensures c.new-2.ensures.empty
