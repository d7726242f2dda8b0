use Rattle.std.proofs.Common.{◌≡◌, None, sym, ap, ◌∙◌}
use Rattle.std.proofs.lemmas.Result.{IfOk-weaker}
use Rattle.std.specs.BTreeMap.{get}
use Rattle.std.specs.Ordering.{nat_cmp}
use Rattle.gl_chunks.specs.declared.chunk_set.ChunkSet.{ChunkSet}
use Rattle.gl_chunks.specs.Chunks.{beside, joined, opened, with_part}
use Rattle.gl_chunks.specs.Growing.{grown_turn}
use Rattle.gl_chunks.proofs.Keeping.{live_some, chunk_repeat, chunk_beside, chunk_joins, chunk_full, chunk_opens}
use Rattle.gl_chunks.proofs.chunks.Chunks.chunk.Goals as goal

pub returns-then-has_ended-clause-ok : goal.returns-then-has_ended-clause-ok
returns-then-has_ended-clause-ok c = λ s k.
    chunk_repeat c.args.now c.args.id c.args.number c.args.count c.args.part.now c.args.self.now.sets c.args.self.now.ended s (sym c.has_ended.ensures ∙ c.if-has_ended.true) k

pub returns-in-Some-beside-clause-ok : goal.returns-in-Some-beside-clause-ok
returns-in-Some-beside-clause-ok c = λ s k.
    chunk_beside c.args.now c.args.id c.args.number c.args.count c.args.part.now c.args.self.now.sets c.args.self.now.ended s c.in-Some.set.now c.in-Some-beside.answer
    (sym c.has_ended.ensures ∙ c.if-has_ended.false) (sym c.in-Some.ensures) (sym c.in-Some-beside.ensures.answer) k

pub returns-then-is_full-clause-ok : goal.returns-then-is_full-clause-ok
returns-then-is_full-clause-ok c = λ s k.
    chunk_full c.args.now c.args.id c.args.number c.args.count c.args.part.now c.args.self.now.sets c.args.self.now.ended s
    (sym c.has_ended.ensures ∙ c.if-has_ended.false) (sym c.in-None.ensures) (sym (c.is_full.ensures.full s.sets k.of_sets) ∙ c.if-is_full.true) k

pub returns-in_ok-grown-in-Some-clause-ok : goal.returns-in_ok-grown-in-Some-clause-ok
returns-in_ok-grown-in-Some-clause-ok c =
    let joins : beside c.in-Some.set.now c.args.number c.args.count ≡ None = sym c.beside.ensures.answer ∙ c.in_default.is in
    IfOk-weaker c.add.result _ _ (λ answer h. λ s k.
    chunk_joins c.args.now c.args.id c.args.number c.args.count c.args.part.now c.args.self.now.sets c.add.new.self.sets c.args.self.now.ended c.add.new.self.ended s c.in-Some.set.now answer
    (grown_turn s c.args.id c.in-Some.set.now c.args.number c.in_ok-grown-in-Some.grown)
    (sym c.has_ended.ensures ∙ c.if-has_ended.false) (sym c.in-Some.ensures) joins k (c.in_ok-grown-in-Some.ensures.turn s c.args.id)
    (h s c.in-Some.set.now k (live_some opened c.args.now (get nat_cmp c.args.self.now.sets c.args.id) c.in-Some.set.now (sym c.in-Some.ensures)))) c.add.ensures.ok

pub returns-in_ok-grown-in-None-clause-ok : goal.returns-in_ok-grown-in-None-clause-ok
returns-in_ok-grown-in-None-clause-ok c =
    IfOk-weaker c.open.result _ _ (λ answer h. λ s k.
    chunk_opens c.args.now c.args.id c.args.number c.args.count c.args.part.now c.args.self.now.sets c.open.new.self.sets c.args.self.now.ended c.open.new.self.ended s answer
    (grown_turn s c.args.id c.in_ok-set-in-None.set c.args.number c.in_ok-grown-in-None.grown)
    (sym c.has_ended.ensures ∙ c.if-has_ended.false) (sym c.in-None.ensures) (sym (c.is_full.ensures.full s.sets k.of_sets) ∙ c.if-is_full.false) k
    (ap (λ (set : ChunkSet). joined s c.args.id (with_part set c.args.number c.args.part.now)) (sym c.in_ok-set-in-None.ensures) ∙ c.in_ok-grown-in-None.ensures.turn s c.args.id) (h s k)) c.open.ensures.ok
