-- A sort by time that keeps what ties as it stood.
use Rattle.std.proofs.Common.{◌≡◌, rules}
use Rattle.std.proofs.lemmas.List.Sorted.{answers_always}
use Rattle.gl_pages.specs.declared.hits.Hit.{Hit}
use Rattle.gl_pages.proofs.Ordering.{sorted_is_in_order}
use Rattle.gl_pages.proofs.hits.sort_by_time.Goals as goal

pub returns : goal.returns
returns c =
    sorted_is_in_order (λ (hit : Hit). hit.time) c.args.hits.now.items c.sort_by_key.new.self.items
    (c.in_ok-sort_by_key.ensures.sorted (λ (hit : Hit). hit.time) (answers_always _ (λ a r. r ≡ a.0.now.time) _ (λ f a r g k. search rules)))
    (c.sort_by_key.ensures.stable (λ (hit : Hit). hit.time) (answers_always _ (λ a r. r ≡ a.0.now.time) _ (λ f a r g k. search rules)))
