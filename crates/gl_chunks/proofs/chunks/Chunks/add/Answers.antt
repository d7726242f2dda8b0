use Rattle.std.proofs.Common.{refl, sym, subst}
use Rattle.gl_chunks.specs.declared.chunks.Chunked.TheVariants as answers
use Rattle.gl_chunks.specs.declared.chunks.Grown.{Grown}
use Rattle.gl_chunks.specs.Chunks.{with_part}
use Rattle.gl_chunks.specs.Growing.{grown_turn}
use Rattle.gl_chunks.proofs.Keeping.{Turns, keeps_set}
use Rattle.gl_chunks.proofs.chunks.Chunks.add.Goals as goal

pub returns-in_ok-end-in-TooLong-clause-ok : goal.returns-in_ok-end-in-TooLong-clause-ok
returns-in_ok-end-in-TooLong-clause-ok c = λ s set k e.
    subst (λ (g : Grown). Turns c.args.now c.end.new.self.sets c.end.new.self.ended answers.TooLong (grown_turn s c.args.id set c.args.number g)) (sym c.in-TooLong.is) (refl, c.in_ok-end-in-TooLong.ensures.ok s k)

pub returns-in_ok-end-in-Whole-clause-ok : goal.returns-in_ok-end-in-Whole-clause-ok
returns-in_ok-end-in-Whole-clause-ok c = λ s set k e.
    subst (λ (g : Grown). Turns c.args.now c.end-in-Whole.new.self.sets c.end-in-Whole.new.self.ended (answers.Whole c.in-Whole.bytes) (grown_turn s c.args.id set c.args.number g)) (sym c.in-Whole.is) (refl, c.in_ok-end-in-Whole.ensures.ok s k)

pub returns-in-Lacks-clause-ok : goal.returns-in-Lacks-clause-ok
returns-in-Lacks-clause-ok c = λ s set k e.
    subst (λ (g : Grown). Turns c.args.now c.put_part.new.self c.args.self.now.ended answers.Held (grown_turn s c.args.id set c.args.number g)) (sym c.in-Lacks.is)
    (refl, keeps_set c.args.now c.args.id (with_part set c.args.number c.in-Lacks.part) c.args.self.now.sets c.put_part.new.self c.args.self.now.ended s (c.put_part.ensures set e) k)
