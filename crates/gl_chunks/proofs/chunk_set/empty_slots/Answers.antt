use Rattle.std.proofs.Common.{◌≡◌, ℕ, List, [], ◌∷◌, ◌++◌, replicate, Option, None, ap, ◌∙◌, arith}
use Rattle.std.proofs.lemmas.List.{replicate_more}
use Rattle.gl_chunks.proofs.chunk_set.empty_slots.Goals as goal

pub loop-i-preserved : goal.loop-i-preserved
loop-i-preserved c = record {
  slots = c.in_ok-push.ensures.items ∙ ap (λ (l : List (Option (List ℕ))). l ++ None ∷ []) c.loop-i.invariant.slots ∙ replicate_more c.loop-i.i None;
  within = omega (arith, c.loop-i-test.true);
}

pub returns : goal.returns
returns c =
    let all : c.loop-i.i ≡ c.args.count = omega (arith, c.loop-i.invariant.within, c.loop-i-test.false) in
    c.loop-i.invariant.slots ∙ ap (λ (n : ℕ). replicate n None) all
