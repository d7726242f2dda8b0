use Rattle.gl_chunks.proofs.Indexing.{indexed_back}
use Rattle.gl_chunks.proofs.sets.put_in.Goals as goal

pub returns-clause-indexed : goal.returns-clause-indexed
returns-clause-indexed c = indexed_back c.args.id c.args.set.opened c.args.openings.now c.insert.new.self c.remove-in-Err.new.self c.args.sets.now c.insert-2.new.self
    c.in-Err.ensures.absent c.in_ok-insert.ensures.updates.0 c.remove-in-Err.ensures.updates.0 c.in-Err.ensures.err c.requires.indexed
