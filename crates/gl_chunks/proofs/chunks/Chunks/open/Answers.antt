use Rattle.std.proofs.Common.{cond, Some, nat_cmp, refl, sym, subst}
use Rattle.std.specs.Ordering.{eq_by_cmp}
use Rattle.std.specs.BTreeMap.{get}
use Rattle.gl_chunks.specs.declared.chunk_set.ChunkSet.{ChunkSet}
use Rattle.gl_chunks.specs.declared.chunks.Chunked.TheVariants as answers
use Rattle.gl_chunks.specs.declared.chunks.Grown.{Grown}
use Rattle.gl_chunks.specs.Chunks.{opened, with_part, Tells}
use Rattle.gl_chunks.specs.Growing.{grown_turn}
use Rattle.gl_chunks.proofs.Keeping.{Turns, keeps_open}
use Rattle.gl_chunks.proofs.chunks.Chunks.open.Goals as goal

pub returns-in_ok-end-in-TooLong-clause-ok : goal.returns-in_ok-end-in-TooLong-clause-ok
returns-in_ok-end-in-TooLong-clause-ok c = λ s k.
    subst (λ (g : Grown). Turns c.args.now c.end.new.self.sets c.end.new.self.ended answers.TooLong (grown_turn s c.args.id c.args.set c.args.number g)) (sym c.in-TooLong.is) (refl, c.in_ok-end-in-TooLong.ensures.ok s k)

pub returns-in_ok-end-in-Whole-clause-ok : goal.returns-in_ok-end-in-Whole-clause-ok
returns-in_ok-end-in-Whole-clause-ok c = λ s k.
    subst (λ (g : Grown). Turns c.args.now c.end-in-Whole.new.self.sets c.end-in-Whole.new.self.ended (answers.Whole c.in-Whole.bytes) (grown_turn s c.args.id c.args.set c.args.number g)) (sym c.in-Whole.is) (refl, c.in_ok-end-in-Whole.ensures.ok s k)

pub returns-in_ok-open-in-Lacks-clause-ok : goal.returns-in_ok-open-in-Lacks-clause-ok
returns-in_ok-open-in-Lacks-clause-ok c = λ s k.
    subst (λ (g : Grown). Turns c.args.now c.open.new.self c.args.self.now.ended answers.Held (grown_turn s c.args.id c.args.set c.args.number g)) (sym c.in-Lacks.is) (
      refl,
      keeps_open c.args.now c.args.id (with_part c.args.set c.args.number c.in-Lacks.part) c.args.self.now.sets c.open.new.self c.args.self.now.ended s
          (subst (λ (w : ChunkSet). Tells opened c.args.now (get nat_cmp c.open.new.self) (λ q. cond (eq_by_cmp nat_cmp c.args.id q) (Some w) (get nat_cmp c.args.self.now.sets q))) c.put.ensures c.in_ok-open-in-Lacks.ensures.ok) k,
    )
