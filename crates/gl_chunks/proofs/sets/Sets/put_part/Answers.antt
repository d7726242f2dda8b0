use Rattle.std.proofs.Common.{arith}
use Rattle.gl_chunks.proofs.Indexing.{indexed_part}
use Rattle.gl_chunks.proofs.sets.Sets.put_part.Goals as goal

pub invariant_of-self : goal.invariant_of-self
invariant_of-self c = (
  indexed_part c.args.id c.args.number c.args.part c.self.inside.openings c.self.inside.by_id c.put_part.new.sets c.put_part.ensures.put c.put_part.ensures.none c.self.invariant.0,
  let few = c.self.invariant.1 in let same = c.put_part.ensures.len in omega (arith, few, same),
)
