use Rattle.std.proofs.Common.{◌+◌, nat_le, rules}
use Rattle.std.proofs.lemmas.Map.Made.{filter_same_pairs}
use Rattle.gl_chunks.specs.Chunks.{at_itself}
use Rattle.gl_chunks.proofs.Keeping.{retained}
use Rattle.gl_chunks.proofs.chunks.discard_ended.Goals as goal

pub returns : goal.returns
returns c = λ id. retained at_itself c.args.now c.args.ended.now c.retain.new.self id c.retain.ensures.was_ordered
    (filter_same_pairs _ (λ e. nat_le c.args.now (at_itself e.1 + 5000)) _ (λ k v b w f' t. search rules) _ _ c.retain.ensures.filtered)
